use Rattle.gc_sets.proofs.OriginLaws.{turns_agree}
use Rattle.gc_sets.proofs.laws.graphs_that_are_made_in_turn_agree.Goals as goal

pub returns : goal.returns
returns c = λ graphs next after a b stand turns. turns_agree graphs next stand after a b turns
