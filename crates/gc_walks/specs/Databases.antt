-- The graphs that a query is matched on, with the segments that a table has of views on them.
use Rattle.std.specs.Prelude.{◌≡◌, ℕ, List, [], Some, slice_get}
use Rattle.std.specs.List.{AllByRecursion, flat_map}
use Rattle.std.specs.Option.{unwrap_or}
use Rattle.gc_spec.specs.PropertyGraph.{PropertyGraph}
use Rattle.gc_automata.specs.Moves.{Segment}
use Rattle.gc_prod.specs.Segments.{Segments, AreSegments, segments_on}
use Rattle.gc_alg.specs.Networks.{Database, named_segments}
use Rattle.gc_alg.specs.declared.atom.ViewUse.{ViewUse}

-- the segments of a view on a graph; a view without an entry has none
abbrev pub segments_in : List Segments → (view graph : ℕ) → List Segment
segments_in table view graph = unwrap_or (segments_on table (record { 0 = view }) graph) []

-- graphs by number, with the segments of a table
abbrev pub database : List PropertyGraph → List Segments → Database
database graphs table = record { graphs = graphs; segments = segments_in table }

-- the segments on a graph of views, under the names by which they are used
abbrev pub used_segments : List Segments → (graph : ℕ) → List ViewUse → List Segment
used_segments table graph views = flat_map (named_segments (database [] table) graph) views

-- an entry has segments of the graph on which it stands
abbrev pub IsOnGraph : List PropertyGraph → Segments → Type 0
IsOnGraph graphs entry = (g : PropertyGraph) → slice_get graphs entry.graph ≡ Some g → AreSegments g entry.segments

-- so has each of a table
abbrev pub AreOnGraphs : List PropertyGraph → List Segments → Type 0
AreOnGraphs graphs table = AllByRecursion (IsOnGraph graphs) table
