use Rattle.std.proofs.Common.{◌≡◌, take}
use Rattle.gc_cert_searches.specs.Readings.{ends_on}
use Rattle.gc_cert_searches.proofs.ends.ends_on.Given as goal

-- those of the ends so far
abbrev pub invariant-loop-one : goal.invariant-loop-one
invariant-loop-one g l = l.kept.items ≡ ends_on l.graph (take l.one-index l.ends)
