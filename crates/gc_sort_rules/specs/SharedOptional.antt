-- S6. A variable in the patterns of an OPTIONAL stands in those of an earlier OPTIONAL, and not in the mandatory ones.
-- `CONSTRUCT (n) MATCH (n) OPTIONAL (n)-[]->(a) OPTIONAL (n)-[]->(a)` breaks it at the second `a`.
use Rattle.std.specs.Prelude.{Bool, false, not, ◌&&◌}
use Rattle.gc_sorts.specs.Variables.{has_use}
use Rattle.gc_sort_rules.specs.Places.{Occurrence, At, Binding}

abbrev pub breaks : Occurrence → Bool
breaks (At token (Binding name role mandatory earlier) seen) = has_use earlier name && not (has_use mandatory name)
breaks occurrence = false
