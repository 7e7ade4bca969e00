use Rattle.std.proofs.Common.{◌≡◌, take}
use Rattle.gc_spec.specs.PropertyGraph.{node_ids}
use Rattle.gc_ppg.proofs.index.ids_of.Given as goal

-- the identities so far are those of the nodes so far
abbrev pub invariant-loop-node : goal.invariant-loop-node
invariant-loop-node l = l.ids.items ≡ node_ids (take l.node-index l.nodes)
