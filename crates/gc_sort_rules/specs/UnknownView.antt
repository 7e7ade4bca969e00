-- S2. The name behind `~` is no view in scope: no PATH before it has given it, in its query or in one around.
-- `CONSTRUCT (n) MATCH (n)-/<~w>/->(m)` breaks it at `w`.
use Rattle.std.specs.Prelude.{Bool, false, not}
use Rattle.gc_sorts.specs.Graphs.{has_name}
use Rattle.gc_sort_rules.specs.Places.{Occurrence, At, ViewName}

abbrev pub breaks : Occurrence → Bool
breaks (At token (ViewName name) seen) = not (has_name seen.views name)
breaks occurrence = false
