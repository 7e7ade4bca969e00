-- Where bundles of hops lead, by the places of nodes.
use Rattle.std.specs.Prelude.{◌≡◌, ℕ, List, map, Some, slice_get, slice_index}
use Rattle.gc_spec.specs.PropertyGraph.{node_ids}
use Rattle.gc_prod.specs.Products.{Setting, Bundle, bundles}

-- places of nodes, and a state
pub record Landing : Type 0 where
  pub state : ℕ
  pub places : List ℕ

-- at the places stand the nodes to which a bundle leads, and the state is that to which it leads
pub record LandsAs (nodes : List ℕ) (landing : Landing) (b : Bundle) : Type 0 where
  pub state : landing.state ≡ b.state
  pub places : map (slice_index nodes) landing.places ≡ map (λ h. h.to) b.hops

-- this is where the j-th bundle of a state leads from the node at a place
abbrev pub Lands : Setting → ℕ → ℕ → ℕ → Landing → Type 0
Lands setting place state j landing =
    let nodes = node_ids setting.network.graph.nodes in
    (b : Bundle) → slice_get (bundles setting (slice_index nodes place) state) j ≡ Some b → LandsAs nodes landing b
