-- The order in which a document has its segments.
use Rattle.std.specs.declared.cmp.Ordering.{Ordering}
use Rattle.std.specs.Ordering.{nat_cmp, ordering_then}
use Rattle.std.specs.Cmp.Lexicographic.{slice_cmp}
use Rattle.gc_rows.specs.Data.{found_order}
use Rattle.gc_automata.specs.Moves.{Segment}

-- by view; then by walk, which is by start, number of edges, edges, and last by nodes, which on a graph the edges tell; then by cost
abbrev pub segment_order : Segment → Segment → Ordering
segment_order a b =
    ordering_then (slice_cmp nat_cmp a.view b.view) (ordering_then (found_order a.walk b.walk) (nat_cmp a.cost b.cost))
