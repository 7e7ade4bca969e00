-- A graph is coherent with itself.
use Rattle.std.proofs.Common.{Option, Some, None, refl}
use Rattle.gc_spec.specs.Coherence.{ElementShape, AreSame, AreCoherent, shape_at}
use Rattle.gc_spec.specs.PropertyGraph.{PropertyGraph}

same_itself : (s : Option ElementShape) → AreSame s s
same_itself None = tt
same_itself (Some s) = refl

pub coherent_with_itself : (g : PropertyGraph) → AreCoherent g g
coherent_with_itself g id = same_itself (shape_at g id)
