use Rattle.std.proofs.Common.{sym, refl, ap, ◌∙◌, ◌==◌, subst}
use Rattle.std.specs.List.{find}
use Rattle.std.specs.Option.{option_copied}
use Rattle.std.specs.Ordering.{nat_cmp, on}
use Rattle.gc_base.specs.Ascending.{Ascends}
use Rattle.gc_ppg.proofs.Collecting.{alone, in_order-ascends, found-other, found-ascending}
use Rattle.gc_ppg.proofs.by_id.ById.get.Goals as goal

pub returns-in-Some-clause-element : goal.returns-in-Some-clause-element
returns-in-Some-clause-element g c =
    let key = g.T.Element.id_of in
    let inside = c.self.inside in
    found-other key inside.ascending.items c.self.invariant.0 inside.others.entries c.args.id c.in-Some.element.now c.self.invariant.1 c.in-Some.ensures.value
    ∙ ap (λ xs. find (λ x. key x == c.args.id) xs) c.self.view_is

pub returns-in-None-clause-element : goal.returns-in-None-clause-element
returns-in-None-clause-element g c =
    let key = g.T.Element.id_of in
    let inside = c.self.inside in
    found-ascending key inside.ascending.items c.self.invariant.0 inside.others.entries c.args.id (option_copied c.find-in-None.result) c.self.invariant.1 c.in-None.ensures.value
    (c.find-in-None.ensures ∙ ap (λ xs. find (λ x. key x == c.args.id) xs) c.deref-in-None.ensures.value)
    ∙ ap (λ xs. find (λ x. key x == c.args.id) xs) c.self.view_is

pub returns-in-Some-clause-ascends : goal.returns-in-Some-clause-ascends
returns-in-Some-clause-ascends g c =
    let key = g.T.Element.id_of in
    let inside = c.self.inside in
    subst (Ascends (on key nat_cmp)) c.self.view_is (in_order-ascends key inside.ascending.items c.self.invariant.0 inside.others.entries)

pub returns-in-None-clause-ascends : goal.returns-in-None-clause-ascends
returns-in-None-clause-ascends g c =
    let key = g.T.Element.id_of in
    let inside = c.self.inside in
    subst (Ascends (on key nat_cmp)) c.self.view_is (in_order-ascends key inside.ascending.items c.self.invariant.0 inside.others.entries)

pub returns-then-is_empty-clause-element : goal.returns-then-is_empty-clause-element
returns-then-is_empty-clause-element g c =
    let key = g.T.Element.id_of in
    let inside = c.self.inside in
    let whole = alone key inside.ascending.items inside.others.entries (c.if-is_empty.ensures.0 refl) in
    c.find.ensures ∙ ap (λ xs. find (λ x. key x == c.args.id) xs) (c.deref.ensures.value ∙ (sym whole ∙ c.self.view_is))

pub returns-then-is_empty-clause-ascends : goal.returns-then-is_empty-clause-ascends
returns-then-is_empty-clause-ascends g c =
    let key = g.T.Element.id_of in
    let inside = c.self.inside in
    subst (Ascends (on key nat_cmp)) c.self.view_is (in_order-ascends key inside.ascending.items c.self.invariant.0 inside.others.entries)
