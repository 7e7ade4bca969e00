-- The edges at a side of a node, by the index.
use Rattle.std.proofs.Common.{◌≡◌, ℕ, List, ap, ◌∙◌}
use Rattle.std.specs.List.{slice_get}
use Rattle.std.specs.Option.{option_and_then, option_map}
use Rattle.gc_spec.specs.PropertyGraph.{PropertyGraph}
use Rattle.gc_ppg.specs.Indexed.{IsIndex, ends_at}
use Rattle.gc_ppg.specs.KeyedPlaces.{at_key, run_at}
use Rattle.gc_ppg.specs.NodeSides.{ArePlacesAt, far_of}
use Rattle.gc_ppg.specs.declared.index.GraphIndex.{GraphIndex}
use Rattle.gc_ppg.specs.declared.node_edges.Side.{Side}
use Rattle.gc_ppg.specs.declared.node_edges.Side.TheVariants.{Leaving, Coming}
use Rattle.gc_ppg.specs.declared.places.PlaceAt.{PlaceAt}
use Rattle.gc_ppg.proofs.EndPlaces.{read_at, far_at}

-- places that list those of a node tell of its edges
pub places_tell : (g : PropertyGraph) (index : GraphIndex) (side : Side) (node : ℕ) (places : List PlaceAt) → IsIndex g index
    → ((i : ℕ) → run_at node places i ≡ slice_get (at_key node (ends_at side index)) i) → ArePlacesAt side node g.edges places
places_tell g index Leaving node places is same = record {
  there = λ i. ap (λ o. option_and_then (slice_get g.edges) (option_map (λ p. p.place) o)) (same i) ∙ read_at (λ e. e.from) (far_of Leaving) node g.edges index.leaving i is.leaving;
  ends = λ i. ap (option_map (λ p. p.far)) (same i) ∙ far_at (λ e. e.from) (far_of Leaving) node g.edges index.leaving i is.leaving;
}
places_tell g index Coming node places is same = record {
  there = λ i. ap (λ o. option_and_then (slice_get g.edges) (option_map (λ p. p.place) o)) (same i) ∙ read_at (λ e. e.to) (far_of Coming) node g.edges index.coming i is.coming;
  ends = λ i. ap (option_map (λ p. p.far)) (same i) ∙ far_at (λ e. e.to) (far_of Coming) node g.edges index.coming i is.coming;
}
