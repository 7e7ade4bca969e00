use Rattle.gc_query.proofs.EvaluationLaws.{gained_more}
use Rattle.gc_query.proofs.laws.what_a_log_gains_in_turn_it_gains_together.Goals as goal

pub returns : goal.returns
returns c = gained_more
