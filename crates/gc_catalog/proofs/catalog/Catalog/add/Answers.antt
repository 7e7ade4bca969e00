use Rattle.std.proofs.Common.{◌≡◌, ◌∷◌, [], ◌++◌, false, Some, is_some, sym, ap, ◌∙◌, subst}
use Rattle.std.specs.List.{AllByRecursion}
use Rattle.gc_spec.specs.Coherence.{AreCoherent}
use Rattle.gc_catalog.specs.NamedGraphs.{NamedGraphs, IsCatalog, AreBelow, number_of}
use Rattle.gc_catalog.proofs.Added.{IsCatalog-with_graph}
use Rattle.gc_catalog.proofs.catalog.Catalog.add.Goals as goal

pub invariant_of-self-2 : goal.invariant_of-self-2
invariant_of-self-2 c =
    let before : NamedGraphs = record { names = c.self.inside.names.items; graphs = c.self.inside.graphs; next = c.self.inside.next } in
    let same = c.self.view_is in
    let free : is_some (number_of before.names c.args.name) ≡ false =
    ap (λ (n : NamedGraphs). is_some (number_of n.names c.args.name)) same ∙ (ap is_some (sym c.number_of.ensures) ∙ (sym c.is_some.ensures ∙ c.if-is_some.false)) in
    let names : c.push-2.new.self.items ≡ before.names ++ Some c.args.name ∷ [] = c.in_ok-push-2.ensures.items ∙ ap (λ ns. ns ++ Some c.args.name ∷ []) c.in_ok-reserve.ensures.items in
    subst IsCatalog (λ i. record { names = sym names i; graphs = sym c.in_ok-push.ensures.ok i; next = before.next })
    (IsCatalog-with_graph before c.args.name c.args.g c.self.invariant free
    (subst (λ (n : NamedGraphs). AllByRecursion (λ h. AreCoherent h c.args.g) n.graphs) (sym same) c.requires.coherent)
    (subst (λ (n : NamedGraphs). AreBelow n.next c.args.g) (sym same) c.requires.below))
