-- The shape that a value stands for.
use Rattle.gc_spec.specs.Coherence.{ElementShape, NodeShape, EdgeShape, PathShape}
use Rattle.gc_ppg.specs.declared.shape.Shape.{Shape}
use Rattle.gc_ppg.specs.declared.shape.Shape.TheVariants.{Node, Edge, Path}

abbrev pub element_shape : Shape → ElementShape
element_shape Node = NodeShape
element_shape (Edge from to) = EdgeShape from to
element_shape (Path walk) = PathShape walk
