-- Segments of PATH views: of one on a graph, and when they are segments of that graph.
use Rattle.std.specs.Prelude.{◌≡◌, ℕ, ◌<◌, Bool, true, ◌&&◌, ◌==◌, List, length, Option}
use Rattle.std.specs.List.{AllByRecursion, find}
use Rattle.std.specs.Option.{option_map}
use Rattle.gc_base.specs.declared.place.ViewNo.{ViewNo}
use Rattle.gc_spec.specs.PropertyGraph.{PropertyGraph, is_walk}
use Rattle.gc_automata.specs.Moves.{Segment}

-- the segments of a view on a graph
pub record Segments : Type 0 where
  pub view : ViewNo
  pub graph : ℕ
  pub segments : List Segment

-- whether an entry is that of a view on a graph
abbrev pub is_of : ViewNo → ℕ → Segments → Bool
is_of view graph entry = (entry.view.0 == view.0) && (entry.graph == graph)

-- the segments of a view on a graph, if a table has them
abbrev pub segments_on : List Segments → ViewNo → ℕ → Option (List Segment)
segments_on table view graph = option_map (λ entry. entry.segments) (find (is_of view graph) table)

-- a segment is a walk of the graph along an edge at least, at a cost of 1 or more
pub record IsSegment (graph : PropertyGraph) (s : Segment) : Type 0 where
  pub walk : is_walk graph.nodes graph.edges s.walk ≡ true
  pub moves : 0 < length s.walk.steps
  pub costs : 0 < s.cost

-- each is a segment of the graph
abbrev pub AreSegments : PropertyGraph → List Segment → Type 0
AreSegments graph segments = AllByRecursion (IsSegment graph) segments
