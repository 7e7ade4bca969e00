use Rattle.std.proofs.Common.{◌≡◌, false, sym, ap, ◌∙◌, subst, List, None}
use Rattle.gc_spec.specs.PropertyGraph.{Edge, IsGraph, PropertyGraph, ids_of, is_among}
use Rattle.gc_ppg.specs.Built.{missing_end}
use Rattle.gc_ppg.proofs.Valid.{IsGraph-with_edge}
use Rattle.gc_ppg.proofs.builder.GraphBuilder.put_edge.Goals as goal

pub invariant_of-self-2 : goal.invariant_of-self-2
invariant_of-self-2 c =
    let g : PropertyGraph = record { nodes = c.self.inside.nodes; edges = c.self.inside.edges; paths = c.self.inside.paths } in
    let fresh : is_among (ids_of g) c.args.edge.id ≡ false = ap (λ (h : PropertyGraph). is_among (ids_of h) c.args.edge.id) c.self.view_is ∙ c.requires.fresh in
    let there : missing_end g.nodes c.args.edge ≡ None = ap (λ (h : PropertyGraph). missing_end h.nodes c.args.edge) c.self.view_is ∙ c.requires.ends in
    subst (λ (xs : List Edge). IsGraph (record g { edges = xs })) (sym c.in_ok-add.ensures.ok)
    (IsGraph-with_edge g c.args.edge c.self.invariant c.known.ensures fresh there)
