-- The edges at a side of a node.
use Rattle.std.specs.Prelude.{◌≡◌, ℕ, ◌==◌, List, slice_get}
use Rattle.std.specs.List.{filter}
use Rattle.std.specs.Option.{option_and_then, option_map}
use Rattle.gc_spec.specs.PropertyGraph.{Edge}
use Rattle.gc_ppg.specs.KeyedPlaces.{run_at}
use Rattle.gc_ppg.specs.declared.node_edges.FarEnd.{FarEnd}
use Rattle.gc_ppg.specs.declared.node_edges.Side.{Side}
use Rattle.gc_ppg.specs.declared.node_edges.Side.TheVariants.{Leaving, Coming}
use Rattle.gc_ppg.specs.declared.places.PlaceAt.{PlaceAt}

-- the edges that leave a node, or those that come to it
abbrev pub edges_at : Side → (node : ℕ) → List Edge → List Edge
edges_at Leaving node edges = filter (λ e. e.from == node) edges
edges_at Coming node edges = filter (λ e. e.to == node) edges

-- the node at the other end of such an edge
abbrev pub far_end : Side → Edge → ℕ
far_end Leaving e = e.to
far_end Coming e = e.from

-- such an edge as it is seen from the node: its identity, and that node
abbrev pub far_of : Side → Edge → FarEnd
far_of side e = record { edge = e.id; node = far_end side e }

-- the edges at a side of a node
pub record SideEdges : Type 0 where
  pub side : Side
  pub all : List Edge

-- places tell of each of these edges where it is, and how it is seen from the node
pub record ArePlacesAt (side : Side) (node : ℕ) (edges : List Edge) (places : List PlaceAt) : Type 0 where
  pub there : (i : ℕ) → option_and_then (slice_get edges) (option_map (λ p. p.place) (run_at node places i)) ≡ slice_get (edges_at side node edges) i
  pub ends : (i : ℕ) → option_map (λ p. p.far) (run_at node places i) ≡ option_map (far_of side) (slice_get (edges_at side node edges) i)
