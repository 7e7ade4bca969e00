use Rattle.std.proofs.Common.{◌≡◌, ap, sym, subst, ◌∙◌, false}
use Rattle.gc_make.proofs.Stages.{node_fresh, node_more}
use Rattle.gc_make.specs.MadeGraphs.{made_node}
use Rattle.gc_ppg.specs.Built.{with_node}
use Rattle.gc_spec.specs.PropertyGraph.{ids_of, is_among}
use Rattle.gc_make.proofs.making.add_nodes.Goals as goal

pub add_node-requires : goal.add_node-requires
add_node-requires c = subst (λ g. is_among (ids_of g) c.loop-i.i ≡ false) (sym c.loop-i.invariant) (node_fresh c.loop-i.i)

pub loop-i-preserved : goal.loop-i-preserved
loop-i-preserved c = c.in_ok-add_node.ensures ∙ (ap (λ g. with_node g (made_node c.loop-i.i)) c.loop-i.invariant ∙ node_more c.loop-i.i)
