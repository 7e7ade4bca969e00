-- A code of expressions, by which proofs tell them apart: the marks of an expression, parts before what they are parts of. They are
-- read back with a stack.
use Rattle.std.specs.Prelude.{◌≡◌, ℕ, ℤ, Bool, List, [], ◌∷◌, refl}
use Rattle.std.specs.Coded.{Coded, code_by, coded_list, codes}
use Rattle.gc_base.specs.declared.place.Sym.{Sym}
use Rattle.gc_expr.specs.Trees.{Kind, TreeOf, AnExpr, ANode, ASumPart, AProductPart, RowOf, At, Number, Text, Truth, Var, Property, Labelled, NodeAt, EdgeAt, Length}
use Rattle.gc_expr.specs.Trees.{Aggregate, Negate, Sum, Product, Compare, Not, And, Or, Exists, SumPart, ProductPart, none, more}
use Rattle.gc_expr.specs.declared.expr.Comparison.{Comparison}
use Rattle.gc_expr.specs.declared.expr.Fold.{Fold}
use Rattle.gc_expr.specs.declared.expr.ProductOp.{ProductOp}
use mathlib.Core.Path.{ap, ◌∙◌}

-- what stands there, without its parts
pub data Mark : Type 0 where
  at_token : ℕ → Mark
  number : ℤ → Mark
  text : List ℕ → Mark
  truth : Bool → Mark
  var : Sym → Mark
  property : List ℕ → Mark
  labelled : List ℕ → Mark
  node_at : Sym → Mark
  edge_at : Sym → Mark
  length_of : Sym → Mark
  aggregate : Fold → Mark
  negate : Mark
  sum : Mark
  product : Mark
  compare : Comparison → Mark
  denial : Mark
  all_of : Mark
  one_of : Mark
  exists : ℕ → Mark
  sum_part : Bool → Mark
  product_part : ProductOp → Mark
  no_expressions : Mark
  no_sum_parts : Mark
  no_product_parts : Mark
  more_of : Mark

-- the end of a row; rows of other kinds stand in no expression
abbrev pub end_of : Kind → Mark
end_of ASumPart = no_sum_parts
end_of AProductPart = no_product_parts
end_of k = no_expressions

-- the marks of a tree, in front of others
abbrev pub marks : {k : Kind} → TreeOf Sym k → List Mark → List Mark
marks (At token node) rest = marks node (at_token token ∷ rest)
marks (Number n) rest = number n ∷ rest
marks (Text t) rest = text t ∷ rest
marks (Truth b) rest = truth b ∷ rest
marks (Var x) rest = var x ∷ rest
marks (Property e k) rest = marks e (property k ∷ rest)
marks (Labelled e l) rest = marks e (labelled l ∷ rest)
marks (NodeAt p i) rest = marks i (node_at p ∷ rest)
marks (EdgeAt p i) rest = marks i (edge_at p ∷ rest)
marks (Length p) rest = length_of p ∷ rest
marks (Aggregate fold operand) rest = marks operand (aggregate fold ∷ rest)
marks (Negate e) rest = marks e (negate ∷ rest)
marks (Sum e parts) rest = marks e (marks parts (sum ∷ rest))
marks (Product e parts) rest = marks e (marks parts (product ∷ rest))
marks (Compare how a b) rest = marks a (marks b (compare how ∷ rest))
marks (Not e) rest = marks e (denial ∷ rest)
marks (And parts) rest = marks parts (all_of ∷ rest)
marks (Or parts) rest = marks parts (one_of ∷ rest)
marks (Exists i) rest = exists i ∷ rest
marks (SumPart minus e) rest = marks e (sum_part minus ∷ rest)
marks (ProductPart op e) rest = marks e (product_part op ∷ rest)
marks (none {k}) rest = end_of k ∷ rest
marks (more t ts) rest = marks t (marks ts (more_of ∷ rest))

-- a tree of any kind that stands in an expression
pub data Item : Type 0 where
  expression : TreeOf Sym AnExpr → Item
  node : TreeOf Sym ANode → Item
  a_sum_part : TreeOf Sym ASumPart → Item
  a_product_part : TreeOf Sym AProductPart → Item
  expressions : TreeOf Sym (RowOf AnExpr) → Item
  sum_parts : TreeOf Sym (RowOf ASumPart) → Item
  product_parts : TreeOf Sym (RowOf AProductPart) → Item
  nothing : Item

abbrev pub item : {k : Kind} → TreeOf Sym k → Item
item {k = AnExpr} t = expression t
item {k = ANode} t = node t
item {k = ASumPart} t = a_sum_part t
item {k = AProductPart} t = a_product_part t
item {k = RowOf AnExpr} ts = expressions ts
item {k = RowOf ASumPart} ts = sum_parts ts
item {k = RowOf AProductPart} ts = product_parts ts
item {k = RowOf ANode} ts = nothing
item {k = RowOf (RowOf k)} ts = nothing

-- the tops of a stack, made parts of a larger tree
abbrev pub of_node : (TreeOf Sym ANode → Item) → List Item → List Item
of_node f (node t ∷ stack) = f t ∷ stack
of_node f stack = stack

abbrev pub of_expression : (TreeOf Sym AnExpr → Item) → List Item → List Item
of_expression f (expression t ∷ stack) = f t ∷ stack
of_expression f stack = stack

abbrev pub of_expressions : (TreeOf Sym (RowOf AnExpr) → Item) → List Item → List Item
of_expressions f (expressions ts ∷ stack) = f ts ∷ stack
of_expressions f stack = stack

abbrev pub summed : List Item → List Item
summed (sum_parts ts ∷ expression t ∷ stack) = node (Sum t ts) ∷ stack
summed stack = stack

abbrev pub multiplied : List Item → List Item
multiplied (product_parts ts ∷ expression t ∷ stack) = node (Product t ts) ∷ stack
multiplied stack = stack

abbrev pub compared : Comparison → List Item → List Item
compared how (expression b ∷ expression a ∷ stack) = node (Compare how a b) ∷ stack
compared how stack = stack

abbrev pub put_before : List Item → List Item
put_before (expressions ts ∷ expression t ∷ stack) = expressions (more t ts) ∷ stack
put_before (sum_parts ts ∷ a_sum_part t ∷ stack) = sum_parts (more t ts) ∷ stack
put_before (product_parts ts ∷ a_product_part t ∷ stack) = product_parts (more t ts) ∷ stack
put_before stack = stack

-- what a mark makes of a stack
abbrev pub put : Mark → List Item → List Item
put (at_token token) stack = of_node (λ n. expression (At token n)) stack
put (number n) stack = node (Number n) ∷ stack
put (text t) stack = node (Text t) ∷ stack
put (truth b) stack = node (Truth b) ∷ stack
put (var x) stack = node (Var x) ∷ stack
put (property k) stack = of_expression (λ e. node (Property e k)) stack
put (labelled l) stack = of_expression (λ e. node (Labelled e l)) stack
put (node_at p) stack = of_expression (λ i. node (NodeAt p i)) stack
put (edge_at p) stack = of_expression (λ i. node (EdgeAt p i)) stack
put (length_of p) stack = node (Length p) ∷ stack
put (aggregate fold) stack = of_expressions (λ operand. node (Aggregate fold operand)) stack
put negate stack = of_expression (λ e. node (Negate e)) stack
put sum stack = summed stack
put product stack = multiplied stack
put (compare how) stack = compared how stack
put denial stack = of_expression (λ e. node (Not e)) stack
put all_of stack = of_expressions (λ parts. node (And parts)) stack
put one_of stack = of_expressions (λ parts. node (Or parts)) stack
put (exists i) stack = node (Exists i) ∷ stack
put (sum_part minus) stack = of_expression (λ e. a_sum_part (SumPart minus e)) stack
put (product_part op) stack = of_expression (λ e. a_product_part (ProductPart op e)) stack
put no_expressions stack = expressions none ∷ stack
put no_sum_parts stack = sum_parts none ∷ stack
put no_product_parts stack = product_parts none ∷ stack
put more_of stack = put_before stack

abbrev pub read : List Mark → List Item → List Item
read [] stack = stack
read (m ∷ ms) stack = read ms (put m stack)

abbrev pub top : List Item → TreeOf Sym AnExpr
top (expression t ∷ stack) = t
top stack = At 0 (Exists 0)

-- what is read back of a tree: its item, where it is of a kind that stands in an expression
abbrev pub IsReadBack : (k : Kind) → TreeOf Sym k → Type 0
IsReadBack (RowOf ANode) t = Unit {0}
IsReadBack (RowOf (RowOf k)) t = Unit {0}
IsReadBack k t = (rest : List Mark) (stack : List Item) → read (marks t rest) stack ≡ read rest (item t ∷ stack)

pub reads_back : {k : Kind} (t : TreeOf Sym k) → IsReadBack k t
reads_back (At token t) = λ rest stack. reads_back t (at_token token ∷ rest) stack
reads_back (Number n) = λ rest stack. refl
reads_back (Text t) = λ rest stack. refl
reads_back (Truth b) = λ rest stack. refl
reads_back (Var x) = λ rest stack. refl
reads_back (Property e k) = λ rest stack. reads_back e (property k ∷ rest) stack
reads_back (Labelled e l) = λ rest stack. reads_back e (labelled l ∷ rest) stack
reads_back (NodeAt p i) = λ rest stack. reads_back i (node_at p ∷ rest) stack
reads_back (EdgeAt p i) = λ rest stack. reads_back i (edge_at p ∷ rest) stack
reads_back (Length p) = λ rest stack. refl
reads_back (Aggregate fold operand) = λ rest stack. reads_back operand (aggregate fold ∷ rest) stack
reads_back (Negate e) = λ rest stack. reads_back e (negate ∷ rest) stack
reads_back (Sum e parts) = λ rest stack. reads_back e (marks parts (sum ∷ rest)) stack ∙ reads_back parts (sum ∷ rest) (item e ∷ stack)
reads_back (Product e parts) = λ rest stack. reads_back e (marks parts (product ∷ rest)) stack ∙ reads_back parts (product ∷ rest) (item e ∷ stack)
reads_back (Compare how a b) = λ rest stack. reads_back a (marks b (compare how ∷ rest)) stack ∙ reads_back b (compare how ∷ rest) (item a ∷ stack)
reads_back (Not e) = λ rest stack. reads_back e (denial ∷ rest) stack
reads_back (And parts) = λ rest stack. reads_back parts (all_of ∷ rest) stack
reads_back (Or parts) = λ rest stack. reads_back parts (one_of ∷ rest) stack
reads_back (Exists i) = λ rest stack. refl
reads_back (SumPart minus e) = λ rest stack. reads_back e (sum_part minus ∷ rest) stack
reads_back (ProductPart op e) = λ rest stack. reads_back e (product_part op ∷ rest) stack
reads_back (none {k = AnExpr}) = λ rest stack. refl
reads_back (none {k = ASumPart}) = λ rest stack. refl
reads_back (none {k = AProductPart}) = λ rest stack. refl
reads_back (none {k = ANode}) = tt
reads_back (none {k = RowOf k}) = tt
reads_back (more {k = AnExpr} t ts) = λ rest stack. reads_back t (marks ts (more_of ∷ rest)) stack ∙ reads_back ts (more_of ∷ rest) (item t ∷ stack)
reads_back (more {k = ASumPart} t ts) = λ rest stack. reads_back t (marks ts (more_of ∷ rest)) stack ∙ reads_back ts (more_of ∷ rest) (item t ∷ stack)
reads_back (more {k = AProductPart} t ts) = λ rest stack. reads_back t (marks ts (more_of ∷ rest)) stack ∙ reads_back ts (more_of ∷ rest) (item t ∷ stack)
reads_back (more {k = ANode} t ts) = tt
reads_back (more {k = RowOf k} t ts) = tt

pub mark_code : Coded Mark
mark_code = hlevel codes

-- the code
pub expression_code : Coded (TreeOf Sym AnExpr)
expression_code = code_by (List Mark) (coded_list mark_code) (λ t. marks t []) (λ ms. top (read ms [])) (λ t. ap top (reads_back t [] []))
