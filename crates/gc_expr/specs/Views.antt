-- What an expression is as a plain tree: by the numbers of its names, and by the name table that
-- they are numbers of.
use Rattle.std.specs.Prelude.{ℕ, List, [], Option, Some, None, slice_get}
use Rattle.gc_base.specs.declared.place.Sym.{Sym}
use Rattle.gc_expr.specs.declared.expr.Expr.{Expr}
use Rattle.gc_expr.specs.declared.expr.SumPart.{SumPart}
use Rattle.gc_expr.specs.declared.expr.ProductPart.{ProductPart}
use Rattle.gc_expr.specs.declared.expr.ExprNode.{ExprNode}
use Rattle.gc_expr.specs.declared.expr.ExprNode.TheOpen.{ExprNode-F, Expr-F, ProductPart-F, SumPart-F}
use Rattle.gc_expr.specs.declared.expr.ExprNode.TheOpen as layer
use Rattle.gc_expr.specs.declared.expr.ExprNode.TheFolds.{fold-Expr, fold-ExprNode, fold-SumPart, fold-ProductPart}
use Rattle.gc_expr.specs.Trees as tree
use Rattle.gc_expr.specs.Trees.{TreeOf, ExprTree, AnExpr, ANode, ASumPart, AProductPart, row, maybe, At, renamed}

-- a name table: the names by number, as their bytes
abbrev pub Names : Type 0
Names = List (List ℕ)

-- the name that is found, or no bytes, which are no name
abbrev pub found_name : Option (List ℕ) → List ℕ
found_name None = []
found_name (Some name) = name

-- the name of a number
abbrev pub name_of : Names → Sym → List ℕ
name_of names sym = found_name (slice_get names sym.0)

-- what is in a box, if there is one
abbrev pub unboxed : {A B : Type 0} → (A → B) → Option A → Option B
unboxed f None = None
unboxed f (Some a) = Some (f a)

-- one layer of a type, with the tree of each part in its place
abbrev pub Layer : (Type 0 → Type 0 → Type 0 → Type 0 → Type 0) → Type 0
Layer F = F (TreeOf Sym ANode) (TreeOf Sym AnExpr) (TreeOf Sym AProductPart) (TreeOf Sym ASumPart)

abbrev pub node_layer : Layer ExprNode-F → TreeOf Sym ANode
node_layer (layer.Number n) = tree.Number n
node_layer (layer.Text t) = tree.Text t
node_layer (layer.Truth b) = tree.Truth b
node_layer (layer.Var x) = tree.Var x
node_layer (layer.Property e k) = tree.Property e.value k
node_layer (layer.Labelled e l) = tree.Labelled e.value l
node_layer (layer.NodeAt p i) = tree.NodeAt p i.value
node_layer (layer.EdgeAt p i) = tree.EdgeAt p i.value
node_layer (layer.Length p) = tree.Length p
node_layer (layer.Aggregate f e) = tree.Aggregate f (maybe (unboxed (λ operand. operand.value) e))
node_layer (layer.Negate e) = tree.Negate e.value
node_layer (layer.Sum e parts) = tree.Sum e.value (row parts.items)
node_layer (layer.Product e parts) = tree.Product e.value (row parts.items)
node_layer (layer.Compare c a b) = tree.Compare c a.value b.value
node_layer (layer.Not e) = tree.Not e.value
node_layer (layer.And parts) = tree.And (row parts.items)
node_layer (layer.Or parts) = tree.Or (row parts.items)
node_layer (layer.Exists i) = tree.Exists i

abbrev pub expr_layer : Layer Expr-F → TreeOf Sym AnExpr
expr_layer e = At e.token e.node

abbrev pub product_part_layer : Layer ProductPart-F → TreeOf Sym AProductPart
product_part_layer p = tree.ProductPart p.op p.part

abbrev pub sum_part_layer : Layer SumPart-F → TreeOf Sym ASumPart
sum_part_layer p = tree.SumPart p.minus p.part

-- the tree of an expression, with the numbers of its names
unfoldable pub numbered_expr : Expr → TreeOf Sym AnExpr
numbered_expr =
    fold-Expr (TreeOf Sym ANode) (TreeOf Sym AnExpr) (TreeOf Sym AProductPart) (TreeOf Sym ASumPart)
    node_layer expr_layer product_part_layer sum_part_layer

-- the same of what an expression is
unfoldable pub numbered_node : ExprNode → TreeOf Sym ANode
numbered_node =
    fold-ExprNode (TreeOf Sym ANode) (TreeOf Sym AnExpr) (TreeOf Sym AProductPart) (TreeOf Sym ASumPart)
    node_layer expr_layer product_part_layer sum_part_layer

-- the same of a later part of a sum
unfoldable pub numbered_sum_part : SumPart → TreeOf Sym ASumPart
numbered_sum_part =
    fold-SumPart (TreeOf Sym ANode) (TreeOf Sym AnExpr) (TreeOf Sym AProductPart) (TreeOf Sym ASumPart)
    node_layer expr_layer product_part_layer sum_part_layer

-- the same of a later part of a product
unfoldable pub numbered_product_part : ProductPart → TreeOf Sym AProductPart
numbered_product_part =
    fold-ProductPart (TreeOf Sym ANode) (TreeOf Sym AnExpr) (TreeOf Sym AProductPart) (TreeOf Sym ASumPart)
    node_layer expr_layer product_part_layer sum_part_layer

-- the tree of an expression, with its names
unfoldable pub expr_tree : Names → Expr → ExprTree AnExpr
expr_tree names e = renamed (name_of names) (numbered_expr e)

-- the tree of a later part of a sum
unfoldable pub sum_part_tree : Names → SumPart → ExprTree ASumPart
sum_part_tree names p = renamed (name_of names) (numbered_sum_part p)

-- the tree of a later part of a product
unfoldable pub product_part_tree : Names → ProductPart → ExprTree AProductPart
product_part_tree names p = renamed (name_of names) (numbered_product_part p)
