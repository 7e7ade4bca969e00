-- What expressions break: names that are not in scope, expressions of a sort that their place does not
-- take, ALL variables, aggregates and EXISTS where they may not stand.
use Rattle.std.specs.Prelude.{ℕ, ◌+◌, List, Bool, true, false, not, Option, Some, None, slice_get, unwrap_or, if◌then◌else◌}
use Rattle.gc_expr.specs.Trees as expr
use Rattle.gc_expr.specs.Trees.{ExprTree, Kind, AnExpr, ANode}
use Rattle.gc_expr.specs.declared.expr.Comparison.{Comparison}
use Rattle.gc_expr.specs.declared.expr.Comparison.TheVariants as comparison
use Rattle.gc_expr.specs.declared.expr.Fold.{Fold}
use Rattle.gc_expr.specs.declared.expr.Fold.TheVariants as fold
use Rattle.gc_sorts.specs.declared.breach.SortRule.TheVariants.{UnknownName, SortClash, AllNotProjected, AggregateHere, ExistsForm}
use Rattle.gc_sorts.specs.declared.form.Form.{Form}
use Rattle.gc_sorts.specs.declared.form.Form.TheVariants.{Unknown, Condition, Node, Edge, Stored, Found, Kept, All, Value}
use Rattle.gc_sorts.specs.declared.form.Takes.{Takes}
use Rattle.gc_sorts.specs.declared.form.Takes.TheVariants as takes
use Rattle.gc_sorts.specs.declared.sort.Role.{Role}
use Rattle.gc_sorts.specs.declared.sort.Role.TheVariants as role
use Rattle.gc_sorts.specs.Breaches.{Breaches, none, both, broken, broken_if}
use Rattle.gc_sorts.specs.Graphs.{has_name}
use Rattle.gc_sorts.specs.Variables.{Use, first_use}

-- where an expression stands: the places of the variables in scope; the found paths that the CONSTRUCT
-- stores, where they may be described; of each EXISTS, whether it may stand there
pub record Standing : Type 0 where
  pub uses : List Use
  pub stored : List (List ℕ)
  pub exists : List Bool

-- what a variable is, by its first place; a found path that the CONSTRUCT stores is told apart
abbrev pub found_form : Bool → Form
found_form is_stored = if is_stored then Kept else Found

abbrev pub role_form : Bool → Role → Form
role_form is_stored role.Node = Node
role_form is_stored role.Edge = Edge
role_form is_stored role.Stored = Stored
role_form is_stored role.Found = found_form is_stored
role_form is_stored role.All = All
role_form is_stored role.Property = Value
role_form is_stored role.Cost = Value

abbrev pub use_form : Bool → Option Use → Form
use_form is_stored None = Unknown
use_form is_stored (Some first) = role_form is_stored first.role

abbrev pub name_form : Standing → List ℕ → Form
name_form s name = use_form (has_name s.stored name) (first_use s.uses name)

-- what an expression is: comparisons, label tests, NOT, AND, OR and EXISTS are conditions; all but
-- variables and members of walks are values
abbrev pub node_form : Standing → ExprTree ANode → Form
node_form s (expr.Var x) = name_form s x
node_form s (expr.NodeAt p i) = Node
node_form s (expr.EdgeAt p i) = Edge
node_form s (expr.Labelled e l) = Condition
node_form s (expr.Compare how a b) = Condition
node_form s (expr.Not e) = Condition
node_form s (expr.And parts) = Condition
node_form s (expr.Or parts) = Condition
node_form s (expr.Exists i) = Condition
node_form s other = Value

abbrev pub form : Standing → ExprTree AnExpr → Form
form s (expr.At token node) = node_form s node

-- whether two operands of `=` may be compared: two values, two nodes, two edges, two stored paths
abbrev pub is_comparable : Form → Form → Bool
is_comparable Value Value = true
is_comparable Node Node = true
is_comparable Edge Edge = true
is_comparable Stored Stored = true
is_comparable a b = false

-- whether a place takes what is known
abbrev pub is_taken : Takes → Form → Bool
is_taken takes.Anything f = true
is_taken takes.Condition Condition = true
is_taken takes.Condition f = false
is_taken takes.Value Value = true
is_taken takes.Value f = false
is_taken takes.Described Node = true
is_taken takes.Described Edge = true
is_taken takes.Described Stored = true
is_taken takes.Described Kept = true
is_taken takes.Described f = false
is_taken takes.Counted Condition = false
is_taken takes.Counted f = true
is_taken takes.Walked Stored = true
is_taken takes.Walked Found = true
is_taken takes.Walked Kept = true
is_taken takes.Walked f = false
is_taken (takes.Like Unknown) f = true
is_taken (takes.Like other) f = is_comparable other f

-- what stands at a token where a place takes some forms: of a name that is not in scope nothing is
-- known, and an ALL variable may stand nowhere
abbrev pub misfit : Takes → Form → ℕ → Breaches
misfit place Unknown token = none
misfit place All token = broken AllNotProjected token
misfit place f token = broken_if (not (is_taken place f)) SortClash token

-- a name that is not in scope
abbrev pub unknown_if : Form → ℕ → Breaches
unknown_if Unknown token = broken UnknownName token
unknown_if f token = none

-- a name at a token where a place takes some forms
abbrev pub name_breaches : Standing → Takes → List ℕ → ℕ → Breaches
name_breaches s place name token = both (unknown_if (name_form s name) token) (misfit place (name_form s name) token)

-- what the operands of a comparison are taken as: `=` and `<>` compare what is alike, the others values
abbrev pub left_takes : Comparison → Takes
left_takes comparison.Equal = takes.Anything
left_takes comparison.Unequal = takes.Anything
left_takes how = takes.Value

abbrev pub right_takes : Comparison → Form → Takes
right_takes comparison.Equal left = takes.Like left
right_takes comparison.Unequal left = takes.Like left
right_takes how left = takes.Value

-- what the operand of an aggregate is taken as
abbrev pub fold_takes : Fold → Takes
fold_takes fold.Rows = takes.Counted
fold_takes fold.Count = takes.Counted
fold_takes f = takes.Value

-- whether the EXISTS of a number may stand where it does
abbrev pub may_ask : Standing → ℕ → Bool
may_ask s i = unwrap_or (slice_get s.exists i) false

-- what an expression breaks in a place that takes some forms, and what its parts break in theirs; whether
-- an aggregate may stand there is told, and none may stand in another. A node is given its token. The path of `nodes(p)`, `edges(p)` and `length(p)` is the second token behind.
unfoldable pub expression_breaches : {k : Kind} → Standing → (folds : Bool) → Takes → ℕ → ExprTree k → Breaches
expression_breaches s folds place at (expr.At token node) =
    both (misfit place (node_form s node) token) (expression_breaches s folds place token node)
expression_breaches s folds place at (expr.Number n) = none
expression_breaches s folds place at (expr.Text t) = none
expression_breaches s folds place at (expr.Truth b) = none
expression_breaches s folds place at (expr.Var x) = unknown_if (name_form s x) at
expression_breaches s folds place at (expr.Property e k) = expression_breaches s folds takes.Described at e
expression_breaches s folds place at (expr.Labelled e l) = expression_breaches s folds takes.Described at e
expression_breaches s folds place at (expr.NodeAt p i) =
    both (name_breaches s takes.Walked p (at + 2)) (expression_breaches s folds takes.Value at i)
expression_breaches s folds place at (expr.EdgeAt p i) =
    both (name_breaches s takes.Walked p (at + 2)) (expression_breaches s folds takes.Value at i)
expression_breaches s folds place at (expr.Length p) = name_breaches s takes.Walked p (at + 2)
expression_breaches s folds place at (expr.Aggregate f operand) =
    both (broken_if (not folds) AggregateHere at) (expression_breaches s false (fold_takes f) at operand)
expression_breaches s folds place at (expr.Negate e) = expression_breaches s folds takes.Value at e
expression_breaches s folds place at (expr.Sum e parts) =
    both (expression_breaches s folds takes.Value at e) (expression_breaches s folds takes.Value at parts)
expression_breaches s folds place at (expr.Product e parts) =
    both (expression_breaches s folds takes.Value at e) (expression_breaches s folds takes.Value at parts)
expression_breaches s folds place at (expr.Compare how a b) =
    both (expression_breaches s folds (left_takes how) at a) (expression_breaches s folds (right_takes how (form s a)) at b)
expression_breaches s folds place at (expr.Not e) = expression_breaches s folds takes.Condition at e
expression_breaches s folds place at (expr.And parts) = expression_breaches s folds takes.Condition at parts
expression_breaches s folds place at (expr.Or parts) = expression_breaches s folds takes.Condition at parts
expression_breaches s folds place at (expr.Exists i) = broken_if (not (may_ask s i)) ExistsForm at
expression_breaches s folds place at (expr.SumPart minus e) = expression_breaches s folds place at e
expression_breaches s folds place at (expr.ProductPart op e) = expression_breaches s folds place at e
expression_breaches s folds place at expr.none = none
expression_breaches s folds place at (expr.more e es) =
    both (expression_breaches s folds place at e) (expression_breaches s folds place at es)
