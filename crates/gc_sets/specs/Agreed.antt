-- When claims are those of one graph.
use Rattle.std.specs.Prelude.{◌≡◌, ℕ, true, List}
use Rattle.std.specs.List.{AllByRecursion, Contains}
use Rattle.gc_sets.specs.Claims.{Claims}
use Rattle.gc_sets.specs.Elements.{stands}
use Rattle.gc_spec.specs.Coherence.{ElementShape, shapes_of}
use Rattle.gc_spec.specs.PropertyGraph.{is_walk}

-- Claim an edge from 1 to 2, the node 1 twice and the node 2: these are of one graph. Without the node 2 they would not be, nor
-- with another claim of the edge from 2 to 1.

-- what each claim says that its identity stands for
abbrev pub claimed_shapes : Claims → List (ℕ × ElementShape)
claimed_shapes c = shapes_of (record { nodes = c.nodes; edges = c.edges; paths = c.paths })

-- an identity is claimed as one kind, with the same ends or the same walk; the ends of each edge are claimed as nodes; and the walk
-- of each stored path goes along nodes and edges that are claimed
pub record AreOfOneGraph (c : Claims) : Type 0 where
  pub one : (a b : ℕ × ElementShape) → Contains (claimed_shapes c) a → Contains (claimed_shapes c) b → a.0 ≡ b.0 → a.1 ≡ b.1
  pub ends : AllByRecursion (λ e. stands c.nodes e ≡ true) c.edges
  pub walks : AllByRecursion (λ p. is_walk c.nodes c.edges p.walk ≡ true) c.paths
