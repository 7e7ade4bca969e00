use Rattle.gc_sets.proofs.Adding.{EdgesSoFar}
use Rattle.gc_sets.proofs.whole.add_edges.Given as goal

-- the edges so far and those that are left are all
abbrev pub invariant-loop-edge : goal.invariant-loop-edge
invariant-loop-edge l = EdgesSoFar l.fn.builder l.builder l.edge-iterator.rest.items l.fn.edges.items
