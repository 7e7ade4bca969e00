use Rattle.gc_cert.specs.Acceptance.{IsPassed}
use Rattle.gc_check.proofs.Tested.{AreLeft}
use Rattle.gc_check.proofs.replaying.are_passed.Given as goal

abbrev pub invariant-loop-walk : goal.invariant-loop-walk
invariant-loop-walk g l = AreLeft (IsPassed l.p l.start) l.walks l.walk-index
