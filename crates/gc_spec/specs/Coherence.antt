-- When two graphs can stand in one session.
use Rattle.std.specs.Prelude.{◌≡◌, ℕ, ◌==◌, List, ◌++◌, map, Option, Some, None, ⊤}
use Rattle.std.specs.Map.{lookup}
use Rattle.gc_base.specs.declared.walk.Walk.{Walk}
use Rattle.gc_spec.specs.PropertyGraph.{PropertyGraph, Node, Edge, Path}

-- what an identity stands for: its kind, and its ends or its walk
pub data ElementShape : Type 0 where
  NodeShape : ElementShape
  EdgeShape : (source target : ℕ) → ElementShape
  PathShape : (walk : Walk) → ElementShape

-- each identity of a graph with its shape
abbrev pub shapes_of : PropertyGraph → List (ℕ × ElementShape)
shapes_of g =
    map (λ (n : Node). (n.id, NodeShape)) g.nodes
    ++ map (λ (e : Edge). (e.id, EdgeShape e.from e.to)) g.edges
    ++ map (λ (p : Path). (p.id, PathShape p.walk)) g.paths

-- the shape of an identity in a graph, if it is there
abbrev pub shape_at : PropertyGraph → ℕ → Option ElementShape
shape_at g id = lookup (λ other. other == id) (shapes_of g)

-- two shapes of one identity are the same
abbrev pub AreSame : Option ElementShape → Option ElementShape → Type 0
AreSame None t = ⊤
AreSame (Some s) None = ⊤
AreSame (Some s) (Some t) = s ≡ t

-- an identity of both graphs has one kind, the same ends and the same walk
abbrev pub AreCoherent : PropertyGraph → PropertyGraph → Type 0
AreCoherent g h = (id : ℕ) → AreSame (shape_at g id) (shape_at h id)
