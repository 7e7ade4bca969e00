use Rattle.std.proofs.Common.{◌≡◌}
use Rattle.gc_cert_searches.proofs.segments.numbered.Given as goal

-- the segments so far
abbrev pub invariant-loop-one : goal.invariant-loop-one
invariant-loop-one l = l.list ≡ l.yielded
