-- The graph of elements that are claimed in any order, some of them several times.
use Rattle.std.specs.Prelude.{◌≡◌, ℕ, ◌==◌, List, [], ◌∷◌, fold, Option, Some, None}
use Rattle.std.specs.List.{filter}
use Rattle.gc_spec.specs.PropertyGraph.{PropertyGraph, Node, Edge, Path, IsGraph, node_at, edge_at, path_at}
use Rattle.gc_sets.specs.Descriptions.{united_node}
use Rattle.gc_sets.specs.Unions.{united_edge, united_path}

-- Claim the node 1 :A {x: 1}, the node 2, and the node 1 :B {x: 2}: the graph has the nodes 1 :A :B {x: 1, 2} and 2. Claim an edge
-- from 1 to 2 and the node 1 alone: no graph has just these.

-- the elements that are claimed
pub record Claims : Type 0 where
  pub nodes : List Node
  pub edges : List Edge
  pub paths : List Path

-- all that is said of one element: the first claim, with what each later one says beside it
abbrev pub joined : {X : Type 0} → (X → X → X) → List X → Option X
joined unite [] = None
joined unite (x ∷ xs) = Some (fold unite x xs)

-- what claims say of an identity
abbrev pub said_of : {X : Type 0} → (X → X → X) → (X → ℕ) → List X → ℕ → Option X
said_of unite id_of claims id = joined unite (filter (λ x. id_of x == id) claims)

-- the graph that has, at each identity, what all claims say of it, and nothing else
pub record IsClaimed (c : Claims) (g : PropertyGraph) : Type 0 where
  pub graph : IsGraph g
  pub nodes : (id : ℕ) → node_at g.nodes id ≡ said_of united_node (λ n. n.id) c.nodes id
  pub edges : (id : ℕ) → edge_at g.edges id ≡ said_of united_edge (λ e. e.id) c.edges id
  pub paths : (id : ℕ) → path_at g.paths id ≡ said_of united_path (λ p. p.id) c.paths id

-- the graph of the claims, or none where there is no such graph: where two kinds have one identity, an edge lacks an end, or a walk
-- does not go along the nodes and edges
abbrev pub IsOutcome : Claims → Option PropertyGraph → Type 0
IsOutcome c (Some g) = IsClaimed c g
IsOutcome c None = (g : PropertyGraph) → IsClaimed c g → ⊥
