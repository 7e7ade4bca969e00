use Rattle.std.proofs.Common.{◌≡◌, ◌++◌}
use Rattle.gc_cert_searches.specs.Readings.{potentials_at}
use Rattle.gc_cert_searches.proofs.potentials.add_at.Given as goal

-- those of the states so far, behind those before
abbrev pub invariant-loop-state : goal.invariant-loop-state
invariant-loop-state l = l.potentials ≡ l.initial.potentials ++ potentials_at l.found l.state l.node
