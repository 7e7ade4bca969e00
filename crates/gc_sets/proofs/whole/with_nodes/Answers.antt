use Rattle.gc_sets.proofs.Adding.{node_new, node_more}
use Rattle.gc_sets.proofs.whole.with_nodes.Goals as goal

pub put_node-requires : goal.put_node-requires
put_node-requires c = record {
  fresh = node_new c.loop-node.builder c.in-Some.node c.loop-node.node-iterator.rest.items c.next.new.self.rest.items c.args.nodes.items c.requires c.in-Some.ensures.steps.0 c.loop-node.invariant;
}

pub loop-node-preserved : goal.loop-node-preserved
loop-node-preserved c =
    node_more c.loop-node.builder c.in-Some.node c.loop-node.node-iterator.rest.items c.next.new.self.rest.items c.args.nodes.items c.requires c.in-Some.ensures.steps.0 c.loop-node.invariant
    c.put_node.new.self c.in_ok-put_node.ensures.added
