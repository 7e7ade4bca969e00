use Rattle.std.proofs.Common.{◌≡◌, true, false, sym, ap, ◌∙◌, subst, List}
use Rattle.gc_spec.specs.PropertyGraph.{Path, IsGraph, PropertyGraph, ids_of, is_among, is_walk}
use Rattle.gc_ppg.proofs.Valid.{IsGraph-with_path}
use Rattle.gc_ppg.proofs.builder.GraphBuilder.put_path.Goals as goal

pub invariant_of-self-2 : goal.invariant_of-self-2
invariant_of-self-2 c =
    let g : PropertyGraph = record { nodes = c.self.inside.nodes; edges = c.self.inside.edges; paths = c.self.inside.paths } in
    let fresh : is_among (ids_of g) c.args.path.id ≡ false = ap (λ (h : PropertyGraph). is_among (ids_of h) c.args.path.id) c.self.view_is ∙ c.requires.fresh in
    let there : is_walk g.nodes g.edges c.args.path.walk ≡ true = ap (λ (h : PropertyGraph). is_walk h.nodes h.edges c.args.path.walk) c.self.view_is ∙ c.requires.walk in
    subst (λ (xs : List Path). IsGraph (record g { paths = xs })) (sym c.in_ok-add.ensures.ok)
    (IsGraph-with_path g c.args.path c.self.invariant c.known.ensures fresh there)
