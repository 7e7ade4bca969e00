-- The truth of a condition.
use Rattle.std.specs.Prelude.{Bool, List, [], Option, Some, None, slice_get}
use Rattle.gc_base.specs.declared.place.Sym.{Sym}
use Rattle.gc_expr.specs.Trees.{TreeOf, AnExpr, ANode, RowOf, At, Labelled, Compare, Not, And, Or, Exists, none, more}
use Rattle.gc_values.specs.Comparisons.{compared}
use Rattle.gc_values.specs.Contexts.{Context}
use Rattle.gc_values.specs.Descriptions.{expr_described, label_truth}
use Rattle.gc_values.specs.ExprValues.{value_of}
use Rattle.gc_values.specs.Kleene.{told, denied, both, either}
use Rattle.gc_values.specs.declared.truth3.Truth3.{Truth3}
use Rattle.gc_values.specs.declared.truth3.Truth3.TheVariants.{Yes, No, Unknown}

-- the answer to an EXISTS query; one that is not told is unknown
abbrev pub answered : Option Bool → Truth3
answered None = Unknown
answered (Some answer) = told answer

-- the truth of a condition, where the EXISTS queries beside it have these answers; no aggregate has a value in it, and what
-- is no condition is unknown
unfoldable mutual
  pub truth_of : Context → List Bool → TreeOf Sym AnExpr → Truth3
  truth_of ctx answers (At token node) = node_truth ctx answers node

  pub node_truth : Context → List Bool → TreeOf Sym ANode → Truth3
  node_truth ctx answers (Labelled e label) = label_truth (expr_described ctx e (value_of ctx [] e)) label
  node_truth ctx answers (Compare how a b) = compared how (value_of ctx [] a) (value_of ctx [] b)
  node_truth ctx answers (Not e) = denied (truth_of ctx answers e)
  node_truth ctx answers (And parts) = all_of ctx answers parts
  node_truth ctx answers (Or parts) = any_of ctx answers parts
  node_truth ctx answers (Exists i) = answered (slice_get answers i)
  node_truth ctx answers e = Unknown

  -- all of the parts
  pub all_of : Context → List Bool → TreeOf Sym (RowOf AnExpr) → Truth3
  all_of ctx answers none = Yes
  all_of ctx answers (more e parts) = both (truth_of ctx answers e) (all_of ctx answers parts)

  -- one of the parts
  pub any_of : Context → List Bool → TreeOf Sym (RowOf AnExpr) → Truth3
  any_of ctx answers none = No
  any_of ctx answers (more e parts) = either (truth_of ctx answers e) (any_of ctx answers parts)
