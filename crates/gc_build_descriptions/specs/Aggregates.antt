-- The aggregates of an expression, taken over the rows of a group.
use Rattle.std.specs.Prelude.{List, [], ◌∷◌, ◌++◌, map}
use Rattle.gc_base.specs.declared.place.Sym.{Sym}
use Rattle.gc_expr.specs.Trees.{Kind, TreeOf, AnExpr, RowOf, At, Property, NodeAt, EdgeAt, Aggregate, Negate, Sum, Product, SumPart, ProductPart, none, more}
use Rattle.gc_expr.specs.declared.expr.Fold.{Fold}
use Rattle.gc_group.specs.Folds.{folded}
use Rattle.gc_values.specs.Contexts.{Context}
use Rattle.gc_values.specs.ExprValues.{value_of}
use Rattle.gc_values.specs.declared.val.Val.{Val}
use Rattle.gc_values.specs.declared.val.Val.TheVariants.{Set}

-- an aggregate, and its operand if it has one
pub record Aggregation : Type 0 where
  pub how : Fold
  pub operand : TreeOf Sym (RowOf AnExpr)

-- the aggregates of a tree whose values are read, in the order of the text; none is inside another
unfoldable pub aggregations : {k : Kind} → TreeOf Sym k → List Aggregation
aggregations (At token node) = aggregations node
aggregations (Property e name) = aggregations e
aggregations (NodeAt p i) = aggregations i
aggregations (EdgeAt p i) = aggregations i
aggregations (Aggregate how operand) = record { how = how; operand = operand } ∷ []
aggregations (Negate e) = aggregations e
aggregations (Sum e parts) = aggregations e ++ aggregations parts
aggregations (Product e parts) = aggregations e ++ aggregations parts
aggregations (SumPart minus e) = aggregations e
aggregations (ProductPart op e) = aggregations e
aggregations (more tree trees) = aggregations tree ++ aggregations trees
aggregations tree = []

-- what an operand is on a row; COUNT(*) has none
abbrev pub operand_value : TreeOf Sym (RowOf AnExpr) → Context → Val
operand_value none ctx = Set []
operand_value (more e es) ctx = value_of ctx [] e

-- the value of an aggregate over rows
abbrev pub aggregated : List Context → Aggregation → Val
aggregated rows a = folded a.how (map (operand_value a.operand) rows)

-- the values of all aggregates of an expression, in the order of the text
abbrev pub all_aggregated : List Context → TreeOf Sym AnExpr → List Val
all_aggregated rows e = map (aggregated rows) (aggregations e)

-- the values of an expression on the rows of a group
abbrev pub values_over : List Context → TreeOf Sym AnExpr → List Val
values_over rows e = map (λ ctx. value_of ctx (all_aggregated rows e) e) rows
