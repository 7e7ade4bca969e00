-- What a variable may stand for, and the order of data.
use Rattle.std.specs.Prelude.{ℕ, List, length, map}
use Rattle.std.specs.declared.cmp.Ordering.{Ordering}
use Rattle.std.specs.Ordering.{nat_cmp, ordering_then}
use Rattle.std.specs.Cmp.Lexicographic.{slice_cmp}
use Rattle.gc_base.specs.Walks.{edges_of}
use Rattle.gc_base.specs.Literals.{literal_order}
use Rattle.gc_base.specs.declared.walk.Walk.{Walk}
use Rattle.gc_rows.specs.declared.datum.Datum.{Datum}
use Rattle.gc_rows.specs.declared.datum.Datum.TheVariants.{Node, Edge, Stored, Found, Span, Value, PastRange}

-- the nodes to which the steps of a walk lead
abbrev pub nodes_of : Walk → List ℕ
nodes_of walk = map (λ step. step.node) walk.steps

-- found walks: by start, then by the number of edges, then by the edges, then by the nodes
abbrev pub found_order : Walk → Walk → Ordering
found_order v w =
    ordering_then (nat_cmp v.start w.start)
    (ordering_then (nat_cmp (length v.steps) (length w.steps))
    (ordering_then (slice_cmp nat_cmp (edges_of v) (edges_of w)) (slice_cmp nat_cmp (nodes_of v) (nodes_of w))))

-- nodes, edges, stored paths, found walks, spans, value sets, and last the mark past range
abbrev pub kind_number : Datum → ℕ
kind_number (Node id) = 0
kind_number (Edge id) = 1
kind_number (Stored id) = 2
kind_number (Found walk) = 3
kind_number (Span start end) = 4
kind_number (Value values) = 5
kind_number PastRange = 6

-- data of one kind: elements by identity, spans by their two ends, value sets as ascending lists
abbrev pub datum_order : Datum → Datum → Ordering
datum_order (Node a) (Node b) = nat_cmp a b
datum_order (Edge a) (Edge b) = nat_cmp a b
datum_order (Stored a) (Stored b) = nat_cmp a b
datum_order (Found v) (Found w) = found_order v w
datum_order (Span a b) (Span c d) = ordering_then (nat_cmp a c) (nat_cmp b d)
datum_order (Value a) (Value b) = slice_cmp literal_order a b
datum_order a b = nat_cmp (kind_number a) (kind_number b)
