-- What it is to go along a symbol, on a graph with segments of views.
use Rattle.std.specs.Prelude.{◌≡◌, ℕ, ◌<◌, true, List, [], ◌∷◌, ◌++◌, length}
use Rattle.std.specs.List.{Contains}
use Rattle.gc_base.specs.Ascending.{has}
use Rattle.gc_base.specs.Literals.{text_order}
use Rattle.gc_base.specs.Walks.{end_of}
use Rattle.gc_base.specs.declared.walk.Walk.{Walk}
use Rattle.gc_spec.specs.PropertyGraph.{PropertyGraph, Node, Edge, node_ids, is_among}
use Rattle.gc_automata.specs.declared.transition.On.{On}
use Rattle.gc_automata.specs.declared.transition.On.TheVariants as on

-- a segment of a view: a walk at a cost
pub record Segment : Type 0 where
  pub view : List ℕ
  pub walk : Walk
  pub cost : ℕ

-- what walks are looked for on: a graph, and segments
pub record Network : Type 0 where
  pub graph : PropertyGraph
  pub segments : List Segment

-- whether an identity is that of a node
abbrev pub IsThere : Network → ℕ → Type 0
IsThere network id = is_among (node_ids network.graph.nodes) id ≡ true

-- edges go from node to node, and so do segments, which have an edge at least
pub record IsNetwork (network : Network) : Type 0 where
  pub edges : (e : Edge) → Contains network.graph.edges e → IsThere network e.from × IsThere network e.to
  pub segments : (s : Segment) → Contains network.segments s
      → (0 < length s.walk.steps) × IsThere network s.walk.start × IsThere network (end_of s.walk)

-- the walk that stays at a node
abbrev pub stay : ℕ → Walk
stay node = record { start = node; steps = [] }

-- the walk along an edge, and the one against it
abbrev pub along : Edge → Walk
along e = record { start = e.from; steps = record { edge = e.id; node = e.to } ∷ [] }

abbrev pub against : Edge → Walk
against e = record { start = e.to; steps = record { edge = e.id; node = e.from } ∷ [] }

-- one walk, and another that begins where it ends
abbrev pub joined : Walk → Walk → Walk
joined first second = record { start = first.start; steps = first.steps ++ second.steps }

-- a walk stays at a node of the graph, at no cost
pub record Stays (network : Network) (w : Walk) (c : ℕ) : Type 0 where
  pub there : IsThere network w.start
  pub still : w.steps ≡ []
  pub free : c ≡ 0

-- a walk along one edge that has a property, at the cost of 1
pub record GoesAlong (network : Network) (way : Edge → Walk) (Fits : Edge → Type 0) (w : Walk) (c : ℕ) : Type 0 where
  pub edge : Edge
  pub there : Contains network.graph.edges edge
  pub fits : Fits edge
  pub goes : w ≡ way edge
  pub cost : c ≡ 1

-- a walk stays at a node that has a label, at no cost
pub record StaysAt (network : Network) (label : List ℕ) (w : Walk) (c : ℕ) : Type 0 where
  pub node : Node
  pub there : Contains network.graph.nodes node
  pub labelled : has text_order node.labels label ≡ true
  pub still : w ≡ stay node.id
  pub free : c ≡ 0

-- a walk goes along a symbol at a cost
abbrev pub Goes : Network → On → Walk → ℕ → Type 0
Goes network on.Empty w c = Stays network w c
Goes network (on.Label l) w c = GoesAlong network along (λ e. has text_order e.labels l ≡ true) w c
Goes network (on.Back l) w c = GoesAlong network against (λ e. has text_order e.labels l ≡ true) w c
Goes network on.Any w c = GoesAlong network along (λ e. Unit {0}) w c
Goes network on.AnyBack w c = GoesAlong network against (λ e. Unit {0}) w c
Goes network (on.Test l) w c = StaysAt network l w c
Goes network (on.View v) w c = Contains network.segments (record { view = v; walk = w; cost = c })
