-- S5. A path that is searched for, an ALL path or a cost stands in a second place in scope. A variable of a property that
-- stands behind COST too is a cost.
-- `CONSTRUCT (n) MATCH (n)-/p<_>/->(m)-/p<_>/->(n)` breaks it at the second `p`.
use Rattle.std.specs.Prelude.{List, Bool, false, ◌&&◌, ◌||◌, Option, Some, None}
use Rattle.gc_sorts.specs.Constructs.{is_later}
use Rattle.gc_sorts.specs.Variables.{Use, is_single, is_property, first_use, has_cost}
use Rattle.gc_sort_rules.specs.Places.{Occurrence, At, Binding}

-- whether a variable with this first place may stand in one alone
abbrev pub stands_once : List Use → Option Use → Bool
stands_once variables None = false
stands_once variables (Some first) = is_single first.role || (is_property first.role && has_cost variables first.name)

abbrev pub breaks : Occurrence → Bool
breaks (At token (Binding name role mandatory earlier) seen) =
    is_later (first_use seen.variables name) token && stands_once seen.variables (first_use seen.variables name)
breaks occurrence = false
