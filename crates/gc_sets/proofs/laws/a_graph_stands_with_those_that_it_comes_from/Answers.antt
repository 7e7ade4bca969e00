use Rattle.gc_sets.proofs.OriginLaws.{stands_behind}
use Rattle.gc_sets.proofs.laws.a_graph_stands_with_those_that_it_comes_from.Goals as goal

pub returns : goal.returns
returns c = λ graphs next after g stand up comes. stands_behind graphs next stand after up g comes
