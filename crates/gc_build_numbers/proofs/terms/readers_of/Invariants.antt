use Rattle.std.proofs.Common.{◌≡◌, take}
use Rattle.gc_build_numbers.proofs.terms.readers_of.Given as goal

-- the readers of the terms so far
abbrev pub invariant-loop-term : goal.invariant-loop-term
invariant-loop-term l = l.readers.items ≡ take l.term-index l.terms
