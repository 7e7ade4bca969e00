use Rattle.std.proofs.Common.{◌≡◌, take}
use Rattle.gc_cert_searches.specs.Readings.{potentials_in}
use Rattle.gc_cert_searches.proofs.potentials.potentials_in.Given as goal

-- those of the nodes so far
abbrev pub invariant-loop-node : goal.invariant-loop-node
invariant-loop-node l = l.potentials ≡ potentials_in l.found l.states (take l.node-index l.nodes)
