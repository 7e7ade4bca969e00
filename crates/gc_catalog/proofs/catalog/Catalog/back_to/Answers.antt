use Rattle.std.proofs.Common.{◌≡◌, take, sym, ap, subst}
use Rattle.std.specs.List.{AllByRecursion}
use Rattle.gc_catalog.specs.NamedGraphs.{NamedGraphs, IsCatalog, AreBelow}
use Rattle.gc_catalog.proofs.First.{IsCatalog-first_graphs}
use Rattle.gc_catalog.proofs.catalog.Catalog.back_to.Goals as goal

pub invariant_of-self : goal.invariant_of-self
invariant_of-self c =
    let before : NamedGraphs = record { names = c.self.inside.names.items; graphs = c.self.inside.graphs; next = c.self.inside.next } in
    subst IsCatalog (λ i. record { names = sym c.truncate.ensures.items i; graphs = sym c.cut.ensures i; next = c.args.next })
    (IsCatalog-first_graphs before c.args.graphs c.args.next c.self.invariant
    (subst (λ (n : NamedGraphs). AllByRecursion (AreBelow c.args.next) (take c.args.graphs n.graphs)) (sym c.self.view_is) c.requires.below) c.requires.most)
