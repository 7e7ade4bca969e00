use Rattle.gc_sets.proofs.Adding.{NodesSoFar}
use Rattle.gc_sets.proofs.whole.with_nodes.Given as goal

-- the nodes so far and those that are left are all
abbrev pub invariant-loop-node : goal.invariant-loop-node
invariant-loop-node l = NodesSoFar l.builder l.node-iterator.rest.items l.fn.nodes.items
