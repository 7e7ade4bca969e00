-- Whether the shapes of elements agree with those in some graphs.
use Rattle.std.specs.Prelude.{ℕ, Bool, true, false, ◌&&◌, ◌==◌, List, Option, Some, None}
use Rattle.std.specs.List.{list_all}
use Rattle.std.specs.Map.{lookup}
use Rattle.std.specs.Cmp.Lexicographic.{pointwise}
use Rattle.gc_base.specs.declared.walk.Step.{Step}
use Rattle.gc_base.specs.declared.walk.Walk.{Walk}
use Rattle.gc_spec.specs.Coherence.{ElementShape, NodeShape, EdgeShape, PathShape, shapes_of}
use Rattle.gc_spec.specs.PropertyGraph.{PropertyGraph}

-- whether two steps go along one edge to one node
abbrev pub same_step : Step → Step → Bool
same_step s t = (s.edge == t.edge) && (s.node == t.node)

-- whether two walks have one start and the same steps
abbrev pub same_walk : Walk → Walk → Bool
same_walk v w = (v.start == w.start) && pointwise same_step v.steps w.steps

-- whether two shapes have one kind, and the same ends or the same walk
abbrev pub same_shape : ElementShape → ElementShape → Bool
same_shape NodeShape NodeShape = true
same_shape (EdgeShape a b) (EdgeShape c d) = (a == c) && (b == d)
same_shape (PathShape v) (PathShape w) = same_walk v w
same_shape s t = false

-- whether a shape is the same as another one, where this is there
abbrev pub same_if_there : Option ElementShape → ElementShape → Bool
same_if_there None shape = true
same_if_there (Some s) shape = same_shape s shape

-- the shape of an identity among the shapes of a graph, if it is there
abbrev pub shape_in : List (ℕ × ElementShape) → ℕ → Option ElementShape
shape_in shapes id = lookup (λ other. other == id) shapes

-- whether an identity has this shape in each graph that has it, of which these are the shapes
abbrev pub agrees : List (List (ℕ × ElementShape)) → ℕ → ElementShape → Bool
agrees seen id shape = list_all (λ shapes. same_if_there (shape_in shapes id) shape) seen

-- whether each element of a graph agrees so
abbrev pub graph_agrees : List (List (ℕ × ElementShape)) → PropertyGraph → Bool
graph_agrees seen g = list_all (λ s. agrees seen s.0 s.1) (shapes_of g)
