use Rattle.std.proofs.Common.{◌∙◌, sym, ap, subst, is_some}
use Rattle.std.specs.Bool.{◌==◌}
use Rattle.std.specs.List.{find}
use Rattle.std.specs.Ordering.{nat_cmp}
use Rattle.gc_base.specs.Ascending.{Ascends}
use Rattle.gc_spec.specs.PropertyGraph.{IsGraph}
use Rattle.gc_ppg.proofs.LabelReads.{index_of}
use Rattle.gc_ppg.proofs.NodeIds.{copied_is_there, id_found}
use Rattle.gc_ppg.proofs.ShapeTables.{Ascends-map}
use Rattle.gc_ppg.proofs.graph.Graph.has_node.Goals as goal

pub find-requires : goal.find-requires
find-requires c =
    let g = c.args.self.now in
    let is_index = index_of _ g c.self.inside.index c.in-Some.index c.self.invariant.1 c.in-Some.is c.self.view_is in
    let is_graph : IsGraph g = subst IsGraph c.self.view_is c.self.invariant.0 in
    subst (Ascends nat_cmp) (sym (c.node_ids.ensures ∙ is_index.ids)) (Ascends-map (λ n. n.id) nat_cmp g.nodes is_graph.nodes_ascend)

pub returns-in-Some : goal.returns-in-Some
returns-in-Some c =
    let g = c.args.self.now in
    let is_index = index_of _ g c.self.inside.index c.in-Some.index c.self.invariant.1 c.in-Some.is c.self.view_is in
    c.is_some.ensures ∙ sym (copied_is_there c.find.result)
    ∙ (ap (λ o. is_some o) c.find.ensures ∙ ap (λ ids. is_some (find (λ i. i == c.args.id) ids)) (c.node_ids.ensures ∙ is_index.ids))
    ∙ id_found g.nodes c.args.id
