use Rattle.std.proofs.Common.{◌≡◌, take}
use Rattle.gc_build_reading.proofs.varying.copied.Given as goal

abbrev pub invariant-loop-term : goal.invariant-loop-term
invariant-loop-term l = l.made ≡ take l.term-index l.terms
