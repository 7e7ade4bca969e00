use Rattle.std.proofs.Common.{rules, ◌≡◌, true, sym, ap, ◌∙◌, subst}
use Rattle.std.specs.Option.{option_copied}
use Rattle.gc_ppg.specs.declared.shape.Kind.TheVariants as kind
use Rattle.gc_rows.specs.Rows.{datum_at}
use Rattle.gc_spec.specs.PropertyGraph.{PropertyGraph, is_among, node_ids}
use Rattle.gc_exec.proofs.Nearness.{is_at}
use Rattle.gc_exec.proofs.ReachedRows.{made_reached}
use Rattle.gc_exec.proofs.WalkRows.{found_node}
use Rattle.gc_exec.proofs.reached.reached_near.Goals as goal

pub reachable-requires : goal.reachable-requires
reachable-requires g c =
    subst (λ (h : PropertyGraph). is_among (node_ids h.nodes) c.in-At.start ≡ true) (sym c.requires.graph)
    (found_node c.args.graph.now.nodes c.in-At.start c.in-Some._node.now (sym c.find_node.ensures.node ∙ ap option_copied c.in-Some.is))

pub returns : goal.returns
returns g c = λ tree parts machine.
    let base = c.args.base.now in
    let ends = c.args.ends in
    let place = is_at kind.Node (datum_at base.row.now ends.left) c.in-At.start c.in-At.ensures in
    made_reached base.schema.now base.row.now ends place.d place.at (c.is_free.ensures (search rules)) c.args.product.now.network c.nodes-nodes.ensures.graph c.requires.segments c.know.ensures.row tree c.in-At.start c.in_ok-nodes.nodes
    (search rules) place.is (c.in_ok-nodes.ensures.conform tree parts machine)
