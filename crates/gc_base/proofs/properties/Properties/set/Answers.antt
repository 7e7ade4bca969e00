use Rattle.std.proofs.Common.{◌∷◌, ◌++◌, ap, sym, subst, ◌∙◌, take, drop, set}
use Rattle.gc_base.specs.Ascending.{with_item}
use Rattle.gc_base.specs.PropertyLists.{AreProperties, property_order}
use Rattle.gc_base.proofs.PropertyLaws.{AreProperties-with, AreProperties-changed, changed-to}
use Rattle.gc_base.proofs.SetLaws.{with_item-place, with_item-gap}
use Rattle.gc_base.proofs.properties.Properties.set.Goals as goal

pub returns-in-Ok-clause-ok : goal.returns-in-Ok-clause-ok
returns-in-Ok-clause-ok c =
    changed-to c.replace.result c.replace.new.self _ _ c.replace.ensures.ok
    (ap (λ ps. set ps c.in-Ok.place c.args.property) c.self.view_is
    ∙ sym (with_item-place property_order c.args.self.now c.args.property c.in-Ok.place c.in-Ok.ensures))

pub invariant_of-self : goal.invariant_of-self
invariant_of-self c =
    let before = subst AreProperties c.self.view_is c.self.invariant in
    AreProperties-changed c.replace.result _ c.replace.new.self _ (returns-in-Ok-clause-ok c) c.replace.ensures.err c.self.invariant
    (AreProperties-with c.args.self.now c.args.property before c.requires)

pub invariant_of-self-in-Err : goal.invariant_of-self-in-Err
invariant_of-self-in-Err c =
    let i = c.in-Err.place in
    let ps = c.args.self.now in
    let p = c.args.property in
    let before = subst AreProperties c.self.view_is c.self.invariant in
    AreProperties-changed c.insert.result _ c.insert.new.self (with_item property_order ps p)
    (changed-to c.insert.result c.insert.new.self _ _ c.insert.ensures.ok
    (ap (λ qs. take i qs ++ p ∷ drop i qs) c.self.view_is ∙ sym (with_item-gap property_order ps p i c.in-Err.ensures)))
    c.insert.ensures.err c.self.invariant (AreProperties-with ps p before c.requires)
