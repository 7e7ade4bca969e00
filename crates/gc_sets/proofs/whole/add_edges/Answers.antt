use Rattle.gc_sets.proofs.Adding.{edge_new, edge_more}
use Rattle.gc_sets.proofs.whole.add_edges.Goals as goal

pub put_edge-requires-clause-fresh : goal.put_edge-requires-clause-fresh
put_edge-requires-clause-fresh c =
    edge_new c.args.builder.now c.loop-edge.builder c.in-Some.edge c.loop-edge.edge-iterator.rest.items c.next.new.self.rest.items c.args.edges.items c.requires.ascend c.requires.fit
    c.in-Some.ensures.steps.0 c.loop-edge.invariant

pub loop-edge-preserved : goal.loop-edge-preserved
loop-edge-preserved c =
    edge_more c.args.builder.now c.loop-edge.builder c.in-Some.edge c.loop-edge.edge-iterator.rest.items c.next.new.self.rest.items c.args.edges.items c.requires.ascend c.requires.fit
    c.in-Some.ensures.steps.0 c.loop-edge.invariant c.put_edge.new.self c.in_ok-put_edge.ensures.added
