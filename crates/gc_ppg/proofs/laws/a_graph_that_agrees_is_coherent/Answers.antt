use Rattle.gc_ppg.proofs.Agreement.{coherent_with_each}
use Rattle.gc_ppg.proofs.laws.a_graph_that_agrees_is_coherent.Goals as goal

pub returns : goal.returns
returns c = λ graphs g h. coherent_with_each graphs g h
