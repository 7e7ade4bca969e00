use Rattle.gc_alg.proofs.PlanLaw.{into, back}
use Rattle.gc_alg.proofs.laws.plans_that_mean_their_blocks_answer_as_they_do.Goals as goal

pub returns : goal.returns
returns c = λ db plans queries m row up answers. (into db plans queries m row up answers, back db plans queries m row up answers)
