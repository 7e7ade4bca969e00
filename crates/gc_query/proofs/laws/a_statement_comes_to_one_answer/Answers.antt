use Rattle.gc_query.proofs.OneOutcome.{one_answer}
use Rattle.gc_query.proofs.laws.a_statement_comes_to_one_answer.Goals as goal

pub returns : goal.returns
returns c = one_answer
