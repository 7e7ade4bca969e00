use Rattle.std.proofs.Common.{◌≡◌, ◌∙◌}
use Rattle.gc_sets.specs.Additions.{assembled}
use Rattle.gc_sets.proofs.IntersectionLaws.{intersection_parts, intersection_made}
use Rattle.gc_sets.proofs.intersection.intersect.Goals as goal

pub assemble-requires : goal.assemble-requires
assemble-requires g c =
    let n = c.in_ok-nodes.ensures in
    let e = c.in_ok-edges.ensures in
    let p = c.in_ok-paths.ensures in
    rw (n, e, p) (intersection_parts c.args.a.now c.args.b.now c.node_count.ensures.valid)

pub returns : goal.returns
returns g c =
    let n = c.in_ok-nodes.ensures in
    let e = c.in_ok-edges.ensures in
    let p = c.in_ok-paths.ensures in
    let made : c.in_ok-graph.graph ≡ assembled c.in_ok-nodes.nodes.items c.in_ok-edges.edges.items c.in_ok-paths.paths.items = c.in_ok-graph.ensures in
    intersection_made c.args.a.now c.args.b.now c.node_count.ensures.valid c.node_count-2.ensures.valid c.requires c.in_ok-graph.graph (made ∙ λ i. assembled (n i) (e i) (p i)) c.node_count-valid_too.ensures.valid
