use Rattle.std.proofs.Common.{◌+◌, ◌++◌, [], ap, sym, subst, ◌∙◌, take, drop}
use Rattle.gc_base.specs.Ascending.{without_item}
use Rattle.gc_base.specs.PropertyLists.{AreProperties, property_order}
use Rattle.gc_base.specs.declared.properties.Property.{Property}
use Rattle.gc_base.proofs.PropertyLaws.{AreProperties-without, AreProperties-changed, changed-to}
use Rattle.gc_base.proofs.properties.Properties.take_out.Goals as goal

pub invariant_of-self : goal.invariant_of-self
invariant_of-self c =
    let i = c.in-Ok.place in
    let ps = c.args.self.now in
    let gone : Property = record { name = c.args.name.now; values = [] } in
    let before = subst AreProperties c.self.view_is c.self.invariant in
    AreProperties-changed c.remove.result _ c.remove.new.self (without_item property_order ps gone)
    (changed-to c.remove.result c.remove.new.self _ _ c.remove.ensures.ok
    (ap (λ qs. take i qs ++ drop (i + 1) qs) c.self.view_is ∙ sym c.in-Ok.ensures.others))
    c.remove.ensures.err c.self.invariant (AreProperties-without ps gone before)
