use Rattle.std.proofs.Common.{◌≡◌, map, take}
use Rattle.gc_ppg.proofs.coherence.Shapes.nodes_of.Given as goal

-- the identities so far are those of the nodes so far
abbrev pub invariant-loop-node : goal.invariant-loop-node
invariant-loop-node l = l.ids.items ≡ map (λ n. n.id) (take l.node-index l.node-items)
