-- S14. The name that a GRAPH or a GRAPH VIEW gives is a graph that is known there, or the name that a PATH gives a view in
-- scope.
-- `GRAPH VIEW g AS (g)` breaks it at the first `g`, where the session has a graph `g`.
use Rattle.std.specs.Prelude.{Bool, false}
use Rattle.gc_sorts.specs.Graphs.{has_name}
use Rattle.gc_sort_rules.specs.Places.{Occurrence, At, NewGraph, NewView}

abbrev pub breaks : Occurrence → Bool
breaks (At token (NewGraph name) seen) = has_name seen.graphs name
breaks (At token (NewView name chains) seen) = has_name seen.views name
breaks occurrence = false
