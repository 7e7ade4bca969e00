use Rattle.std.proofs.Common.{◌≡◌, ◌++◌, drop}
use Rattle.gc_spec.specs.PropertyGraph.{node_ids}
use Rattle.gc_prod.proofs.product.node_list.Given as goal

abbrev pub invariant-loop-i : goal.invariant-loop-i
invariant-loop-i g l = l.nodes.items ++ node_ids (drop l.i l.graph.nodes) ≡ node_ids l.graph.nodes
