use Rattle.std.proofs.Common.{◌≡◌, is_ok, Less, ap, sym, ◌∙◌, refl, subst}
use Rattle.std.specs.List.{AllByRecursion}
use Rattle.std.specs.Ordering.{nat_cmp, on}
use Rattle.gc_base.specs.Ascending.{with_item}
use Rattle.gc_ppg.proofs.Collecting.{longer, ascends_on, alone}
use Rattle.gc_ppg.proofs.by_id.ById.add.Goals as goal

pub invariant_of-self-then-is_above : goal.invariant_of-self-then-is_above
invariant_of-self-then-is_above g c =
    let key = g.T.Element.id_of in
    let xs = c.self.inside.ascending.items in
    let below = subst (AllByRecursion (λ y. nat_cmp (key y) c.id.result ≡ Less)) c.deref.ensures.value (c.if-is_above.ensures refl) in
    (ascends_on key (is_ok c.push.result) xs c.push.new.self.items c.args.element c.id.result c.self.invariant.0 c.id.ensures below c.push.ensures.items, c.self.invariant.1)

pub returns-then-is_above-clause-ok : goal.returns-then-is_above-clause-ok
returns-then-is_above-clause-ok g c =
    let key = g.T.Element.id_of in
    let xs = c.self.inside.ascending.items in
    let es = c.self.inside.others.entries in
    let below = subst (AllByRecursion (λ y. nat_cmp (key y) c.id.result ≡ Less)) c.deref.ensures.value (c.if-is_above.ensures refl) in
    let none = c.if-is_empty.ensures.0 refl in
    alone key c.push.new.self.items es none
    ∙ ((longer key xs c.push.new.self.items c.args.element c.id.result c.self.invariant.0 c.id.ensures below c.in_ok-push.ensures.items).items
    ∙ ap (λ ys. with_item (on key nat_cmp) ys c.args.element) (sym (alone key xs es none) ∙ c.self.view_is))
