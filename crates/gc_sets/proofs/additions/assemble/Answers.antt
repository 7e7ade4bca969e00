use Rattle.std.proofs.Common.{sym, ap, ◌∙◌, subst}
use Rattle.gc_spec.specs.PropertyGraph.{ids_of, edge_ids, path_ids}
use Rattle.gc_sets.specs.Additions.{AreNew, with_nodes, with_standing}
use Rattle.gc_sets.proofs.NewIds.{new_edges, new_paths}
use Rattle.gc_sets.proofs.additions.assemble.Goals as goal

pub add_edges-requires : goal.add_edges-requires
add_edges-requires c =
    let ns = c.args.nodes.items in
    let made = c.in_ok-add_nodes.ensures ∙ ap (λ g. with_nodes g ns) c.new-builder.ensures in
    subst (λ g. AreNew (ids_of g) (edge_ids c.args.edges.items)) (sym made) (new_edges ns c.args.edges.items c.requires.new_edges)

pub add_paths-requires : goal.add_paths-requires
add_paths-requires c =
    let ns = c.args.nodes.items in
    let es = c.args.edges.items in
    let made = c.in_ok-add_edges.ensures ∙ ap (λ g. with_standing g es) (c.in_ok-add_nodes.ensures ∙ ap (λ g. with_nodes g ns) c.new-builder.ensures) in
    subst (λ g. AreNew (ids_of g) (path_ids c.args.paths.items)) (sym made) (new_paths ns es c.args.paths.items c.requires.new_paths)
