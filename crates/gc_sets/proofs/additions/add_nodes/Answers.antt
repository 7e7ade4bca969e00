use Rattle.gc_sets.proofs.NewIds.{node_turn}
use Rattle.gc_sets.proofs.additions.add_nodes.Goals as goal

pub loop-node-preserved : goal.loop-node-preserved
loop-node-preserved c = node_turn c.loop-node.builder c.put_node.new.self _ c.in-Some.node c.loop-node.node-iterator.rest.items c.next.new.self.rest.items c.in_ok-put_node.ensures.added c.in-Some.ensures.steps.0 c.loop-node.invariant
