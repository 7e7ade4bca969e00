use Rattle.gc_sets.proofs.NewIds.{edge_turn}
use Rattle.gc_sets.proofs.additions.add_edges.Goals as goal

pub loop-edge-preserved : goal.loop-edge-preserved
loop-edge-preserved c = edge_turn c.loop-edge.builder c.add_edge.new.builder _ c.in-Some.edge c.loop-edge.edge-iterator.rest.items c.next.new.self.rest.items c.in_ok-add_edge.ensures c.in-Some.ensures.steps.0 c.loop-edge.invariant
