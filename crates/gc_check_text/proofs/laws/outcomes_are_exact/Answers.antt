use Rattle.gc_check_text.proofs.OneOutcome.{one_outcome}
use Rattle.gc_check_text.proofs.laws.outcomes_are_exact.Goals as goal

pub returns : goal.returns
returns c = λ bytes. one_outcome bytes (c.certificates_are_formed.ensures bytes)
