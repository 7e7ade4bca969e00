-- S1. The name of a graph, behind ON, as a term or as an item, is not known there: no graph of the session has it, no
-- GRAPH VIEW before, and no GRAPH of the queries around.
-- `CONSTRUCT (n) MATCH (n) ON h` breaks it at `h`, where the session has no graph of that name.
use Rattle.std.specs.Prelude.{Bool, false, not}
use Rattle.gc_sorts.specs.Graphs.{has_name}
use Rattle.gc_sort_rules.specs.Places.{Occurrence, At, GraphName}

abbrev pub breaks : Occurrence → Bool
breaks (At token (GraphName name) seen) = not (has_name seen.graphs name)
breaks occurrence = false
