use Rattle.gc_explain.proofs.WholeLaw.{whole_means}
use Rattle.gc_explain.proofs.laws.explained_steps_and_those_of_exists_queries_mean_their_block.Goals as goal

pub returns : goal.returns
returns c = λ estimates block sound db. whole_means estimates db block sound
