-- Where the elements of a graph come from.
use Rattle.std.specs.Prelude.{◌≡◌, ℕ, ◌<◌, ◌≤◌, ◌⊎◌, List, Some}
use Rattle.std.specs.List.{Contains}
use Rattle.gc_spec.specs.Coherence.{AreCoherent, ElementShape, shape_at}
use Rattle.gc_spec.specs.PropertyGraph.{PropertyGraph}

-- Take `CONSTRUCT (x)-[:A]->(x) MATCH (x)` over a graph of the node 1, where the next identity is 2: its graph has the node 1, which
-- is one of the other graph, and the edge 2 from 1 to 1, which is new. The next identity is then 3.

-- an identity stands for this in one of some graphs
pub record IsOfOne (graphs : List PropertyGraph) (id : ℕ) (shape : ElementShape) : Type 0 where
  pub graph : PropertyGraph
  pub among : Contains graphs graph
  pub there : shape_at graph id ≡ Some shape

-- an identity is new: one from the next on, and below that which is the next one then
pub record IsNew (next after id : ℕ) : Type 0 where
  pub later : next ≤ id
  pub before : id < after

-- each identity of a graph stands for what it does in one of some graphs, with the same ends or the same walk; or it is new
abbrev pub ComesFrom : List PropertyGraph → (next after : ℕ) → PropertyGraph → Type 0
ComesFrom graphs next after g = (id : ℕ) (shape : ElementShape) → shape_at g id ≡ Some shape → IsOfOne graphs id shape ⊎ IsNew next after id

-- any two of some graphs are coherent, and all their identities are below the next one
pub record AreStanding (graphs : List PropertyGraph) (next : ℕ) : Type 0 where
  pub coherent : (g h : PropertyGraph) → Contains graphs g → Contains graphs h → AreCoherent g h
  pub below : (g : PropertyGraph) → Contains graphs g → (id : ℕ) (shape : ElementShape) → shape_at g id ≡ Some shape → id < next

-- two graphs that come from some graphs, of which the second was made after the first
pub record AreMadeInTurn (graphs : List PropertyGraph) (next after : ℕ) (a b : PropertyGraph) : Type 0 where
  pub middle : ℕ
  pub up : next ≤ middle
  pub on : middle ≤ after
  pub first : ComesFrom graphs next middle a
  pub second : ComesFrom graphs middle after b
