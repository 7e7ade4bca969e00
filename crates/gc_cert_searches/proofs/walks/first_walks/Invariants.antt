use Rattle.std.proofs.Common.{◌≡◌, take}
use Rattle.gc_cert_searches.specs.Readings.{first_docs}
use Rattle.gc_cert_searches.proofs.walks.first_walks.Given as goal

-- the walks to the nodes so far
abbrev pub invariant-loop-target : goal.invariant-loop-target
invariant-loop-target l = l.walks ≡ first_docs l.found (take l.target-index l.targets)
