use Rattle.std.proofs.Common.{◌≡◌, false, sym, ap, ◌∙◌, subst, List}
use Rattle.gc_spec.specs.PropertyGraph.{Node, IsGraph, PropertyGraph, ids_of, is_among}
use Rattle.gc_ppg.proofs.Valid.{IsGraph-with_node}
use Rattle.gc_ppg.proofs.builder.GraphBuilder.put_node.Goals as goal

pub invariant_of-self-2 : goal.invariant_of-self-2
invariant_of-self-2 c =
    let g : PropertyGraph = record { nodes = c.self.inside.nodes; edges = c.self.inside.edges; paths = c.self.inside.paths } in
    let fresh : is_among (ids_of g) c.args.node.id ≡ false = ap (λ (h : PropertyGraph). is_among (ids_of h) c.args.node.id) c.self.view_is ∙ c.requires.fresh in
    subst (λ (xs : List Node). IsGraph (record g { nodes = xs })) (sym c.in_ok-add.ensures.ok)
    (IsGraph-with_node g c.args.node c.self.invariant c.known.ensures fresh)
