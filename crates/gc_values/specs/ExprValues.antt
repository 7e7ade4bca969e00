-- The value of an expression.
use Rattle.std.specs.Prelude.{ℕ, ◌+◌, List, [], drop, Option, Some, None, slice_get, unwrap_or}
use Rattle.gc_base.specs.Walks.{edges_of}
use Rattle.gc_base.specs.declared.literal.Literal.TheVariants as literal
use Rattle.gc_base.specs.declared.place.Sym.{Sym}
use Rattle.gc_expr.specs.Trees.{Kind, TreeOf, AnExpr, ANode, ASumPart, AProductPart, RowOf, At, Number, Text, Truth, Var, Property, NodeAt, EdgeAt, Length, Aggregate, Negate, Sum, Product, SumPart, ProductPart, none, more}
use Rattle.gc_rows.specs.declared.datum.Datum.{Datum}
use Rattle.gc_rows.specs.declared.datum.Datum.TheVariants as datum
use Rattle.gc_values.specs.Arithmetic.{one, operated, negated, sum_operation, product_operation}
use Rattle.gc_values.specs.Contexts.{Context, datum_of}
use Rattle.gc_values.specs.Descriptions.{expr_described, property_of}
use Rattle.gc_values.specs.PathParts.{walk_of, length_of, part_at, nodes_along}
use Rattle.gc_values.specs.declared.val.Val.{Val}
use Rattle.gc_values.specs.declared.val.Val.TheVariants.{Set, Element, Walked, Undefined}
use Rattle.gc_values.specs.declared.val.Why.TheVariants.{Overflow, WrongKind}

-- the value of a variable that stands for this: a found walk, or all walks between two nodes, is a mark that is not empty
abbrev pub datum_value : Option Datum → Val
datum_value None = Set []
datum_value (Some (datum.Node id)) = Element id
datum_value (Some (datum.Edge id)) = Element id
datum_value (Some (datum.Stored id)) = Element id
datum_value (Some (datum.Found walk)) = Walked
datum_value (Some (datum.Span from to)) = Walked
datum_value (Some (datum.Value values)) = Set values
datum_value (Some datum.PastRange) = Undefined Overflow

-- how many aggregates a tree has whose values are read; the operand of an aggregate has none, and a condition has no value
unfoldable pub aggregates : {k : Kind} → TreeOf Sym k → ℕ
aggregates (At token node) = aggregates node
aggregates (Property e name) = aggregates e
aggregates (NodeAt p i) = aggregates i
aggregates (EdgeAt p i) = aggregates i
aggregates (Aggregate fold operand) = 1
aggregates (Negate e) = aggregates e
aggregates (Sum e parts) = aggregates e + aggregates parts
aggregates (Product e parts) = aggregates e + aggregates parts
aggregates (SumPart minus e) = aggregates e
aggregates (ProductPart op e) = aggregates e
aggregates (more tree trees) = aggregates tree + aggregates trees
aggregates tree = 0

-- the first of the values of aggregates
abbrev pub first_folded : List Val → Val
first_folded folded = unwrap_or (slice_get folded 0) (Set [])

-- the value of an expression, where the values of its aggregates come first in a list, in the order of the text
unfoldable mutual
  pub value_of : Context → List Val → TreeOf Sym AnExpr → Val
  value_of ctx folded (At token node) = node_value ctx folded node

  pub node_value : Context → List Val → TreeOf Sym ANode → Val
  node_value ctx folded (Number n) = one (literal.Number n)
  node_value ctx folded (Text t) = one (literal.Text t)
  node_value ctx folded (Truth b) = one (literal.Truth b)
  node_value ctx folded (Var x) = datum_value (datum_of ctx x)
  node_value ctx folded (Property e name) = property_of (expr_described ctx e (value_of ctx folded e)) name
  node_value ctx folded (NodeAt p i) = part_at nodes_along (walk_of ctx p) (value_of ctx folded i)
  node_value ctx folded (EdgeAt p i) = part_at edges_of (walk_of ctx p) (value_of ctx folded i)
  node_value ctx folded (Length p) = length_of (walk_of ctx p)
  node_value ctx folded (Aggregate fold operand) = first_folded folded
  node_value ctx folded (Negate e) = negated (value_of ctx folded e)
  node_value ctx folded (Sum e parts) = sum_from ctx (drop (aggregates e) folded) (value_of ctx folded e) parts
  node_value ctx folded (Product e parts) = product_from ctx (drop (aggregates e) folded) (value_of ctx folded e) parts
  node_value ctx folded condition = Undefined WrongKind

  -- a chain is done from the left: the value so far, and what is added to it or taken away
  pub sum_from : Context → List Val → Val → TreeOf Sym (RowOf ASumPart) → Val
  sum_from ctx folded so_far none = so_far
  sum_from ctx folded so_far (more (SumPart minus e) parts) =
      sum_from ctx (drop (aggregates e) folded) (operated (sum_operation minus) so_far (value_of ctx folded e)) parts

  pub product_from : Context → List Val → Val → TreeOf Sym (RowOf AProductPart) → Val
  product_from ctx folded so_far none = so_far
  product_from ctx folded so_far (more (ProductPart op e) parts) =
      product_from ctx (drop (aggregates e) folded) (operated (product_operation op) so_far (value_of ctx folded e)) parts
