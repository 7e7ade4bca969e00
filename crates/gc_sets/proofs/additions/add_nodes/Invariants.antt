use Rattle.std.proofs.Common.{◌≡◌}
use Rattle.gc_spec.specs.PropertyGraph.{ids_of, node_ids}
use Rattle.gc_sets.specs.Additions.{AreNew, with_nodes}
use Rattle.gc_sets.proofs.additions.add_nodes.Given as goal

-- the graph so far with the rest is the graph with all, and the rest are new
abbrev pub invariant-loop-node : goal.invariant-loop-node
invariant-loop-node l = (with_nodes l.builder l.node-iterator.rest.items ≡ with_nodes l.fn.builder l.fn.nodes.items) × AreNew (ids_of l.builder) (node_ids l.node-iterator.rest.items)
