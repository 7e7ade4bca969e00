use Rattle.std.proofs.Common.{None, ◌∷◌, [], ◌++◌, ◌≡◌, ap, sym, ◌∙◌, subst}
use Rattle.std.specs.List.{AllByRecursion}
use Rattle.gc_spec.specs.Coherence.{AreCoherent}
use Rattle.gc_catalog.specs.NamedGraphs.{NamedGraphs, IsCatalog, AreBelow}
use Rattle.gc_catalog.proofs.Added.{IsCatalog-with_local}
use Rattle.gc_catalog.proofs.catalog.Catalog.add_unnamed.Goals as goal

pub invariant_of-self-2 : goal.invariant_of-self-2
invariant_of-self-2 c =
    let before : NamedGraphs = record { names = c.self.inside.names.items; graphs = c.self.inside.graphs; next = c.self.inside.next } in
    let same = c.self.view_is in
    let names : c.push-2.new.self.items ≡ before.names ++ None ∷ [] = c.in_ok-push-2.ensures.items ∙ ap (λ ns. ns ++ None ∷ []) c.in_ok-reserve.ensures.items in
    subst IsCatalog (λ i. record { names = sym names i; graphs = sym c.in_ok-push.ensures.ok i; next = before.next })
    (IsCatalog-with_local before c.args.g c.self.invariant
    (subst (λ (n : NamedGraphs). AllByRecursion (λ h. AreCoherent h c.args.g) n.graphs) (sym same) c.requires.coherent)
    (subst (λ (n : NamedGraphs). AreBelow n.next c.args.g) (sym same) c.requires.below))
