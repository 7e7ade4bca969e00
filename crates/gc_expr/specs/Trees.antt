-- Expressions as plain trees.
use Rattle.std.specs.Prelude.{ℕ, ℤ, Bool, List, [], ◌∷◌, Option, Some, None}
use Rattle.gc_expr.specs.declared.expr.Comparison.{Comparison}
use Rattle.gc_expr.specs.declared.expr.Fold.{Fold}
use Rattle.gc_expr.specs.declared.expr.ProductOp.{ProductOp}

-- a tree is an expression, what one is, a later part of a sum or product, or a row of such
pub data Kind : Type 0 where
  AnExpr : Kind
  ANode : Kind
  ASumPart : Kind
  AProductPart : Kind
  RowOf : Kind → Kind

-- the trees of expressions, by what stands for a name in them; words and texts are their bytes
pub data TreeOf (N : Type 0) : Kind → Type 0 where
  -- an expression, by the number of its first token
  At : ℕ → TreeOf N ANode → TreeOf N AnExpr
  Number : ℤ → TreeOf N ANode
  Text : List ℕ → TreeOf N ANode
  Truth : Bool → TreeOf N ANode
  Var : N → TreeOf N ANode
  -- `x.k` and `x:l`
  Property : TreeOf N AnExpr → List ℕ → TreeOf N ANode
  Labelled : TreeOf N AnExpr → List ℕ → TreeOf N ANode
  -- `nodes(p)[i]`, `edges(p)[i]` and `length(p)`
  NodeAt : N → TreeOf N AnExpr → TreeOf N ANode
  EdgeAt : N → TreeOf N AnExpr → TreeOf N ANode
  Length : N → TreeOf N ANode
  -- an aggregate of at most one operand
  Aggregate : Fold → TreeOf N (RowOf AnExpr) → TreeOf N ANode
  Negate : TreeOf N AnExpr → TreeOf N ANode
  Sum : TreeOf N AnExpr → TreeOf N (RowOf ASumPart) → TreeOf N ANode
  Product : TreeOf N AnExpr → TreeOf N (RowOf AProductPart) → TreeOf N ANode
  Compare : Comparison → TreeOf N AnExpr → TreeOf N AnExpr → TreeOf N ANode
  Not : TreeOf N AnExpr → TreeOf N ANode
  And : TreeOf N (RowOf AnExpr) → TreeOf N ANode
  Or : TreeOf N (RowOf AnExpr) → TreeOf N ANode
  -- the EXISTS query of this number in the list beside the expression
  Exists : ℕ → TreeOf N ANode
  -- a part that is added, or taken away where that is true
  SumPart : Bool → TreeOf N AnExpr → TreeOf N ASumPart
  ProductPart : ProductOp → TreeOf N AnExpr → TreeOf N AProductPart
  -- no tree, and a tree before a row
  none : {k : Kind} → TreeOf N (RowOf k)
  more : {k : Kind} → TreeOf N k → TreeOf N (RowOf k) → TreeOf N (RowOf k)

-- the trees of expressions whose names are their bytes
abbrev pub ExprTree : Kind → Type 0
ExprTree = TreeOf (List ℕ)

-- a list of trees as a row
abbrev pub row : {N : Type 0} {k : Kind} → List (TreeOf N k) → TreeOf N (RowOf k)
row [] = none
row (tree ∷ trees) = more tree (row trees)

-- what may be absent, as a row of at most one
abbrev pub maybe : {N : Type 0} {k : Kind} → Option (TreeOf N k) → TreeOf N (RowOf k)
maybe None = none
maybe (Some tree) = more tree none

-- a tree with another thing for each name
unfoldable pub renamed : {N M : Type 0} {k : Kind} → (N → M) → TreeOf N k → TreeOf M k
renamed f (At token node) = At token (renamed f node)
renamed f (Number n) = Number n
renamed f (Text t) = Text t
renamed f (Truth b) = Truth b
renamed f (Var x) = Var (f x)
renamed f (Property e k) = Property (renamed f e) k
renamed f (Labelled e l) = Labelled (renamed f e) l
renamed f (NodeAt p i) = NodeAt (f p) (renamed f i)
renamed f (EdgeAt p i) = EdgeAt (f p) (renamed f i)
renamed f (Length p) = Length (f p)
renamed f (Aggregate fold operand) = Aggregate fold (renamed f operand)
renamed f (Negate e) = Negate (renamed f e)
renamed f (Sum e parts) = Sum (renamed f e) (renamed f parts)
renamed f (Product e parts) = Product (renamed f e) (renamed f parts)
renamed f (Compare how a b) = Compare how (renamed f a) (renamed f b)
renamed f (Not e) = Not (renamed f e)
renamed f (And parts) = And (renamed f parts)
renamed f (Or parts) = Or (renamed f parts)
renamed f (Exists i) = Exists i
renamed f (SumPart minus e) = SumPart minus (renamed f e)
renamed f (ProductPart op e) = ProductPart op (renamed f e)
renamed f none = none
renamed f (more tree trees) = more (renamed f tree) (renamed f trees)
