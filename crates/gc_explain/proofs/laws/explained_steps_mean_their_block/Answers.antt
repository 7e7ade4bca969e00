use Rattle.gc_explain.proofs.StepsMean.{block_means}
use Rattle.gc_explain.proofs.laws.explained_steps_mean_their_block.Goals as goal

pub returns : goal.returns
returns c = block_means
