use Rattle.gc_check.proofs.Refusals.{verdict_one}
use Rattle.gc_check.proofs.laws.verdicts_are_exact.Goals as goal

pub returns : goal.returns
returns c = verdict_one
