use Rattle.std.proofs.Common.{◌≡◌, subst, map, take}
use Rattle.gc_sorts.specs.Variables.{use_by}
use Rattle.gc_sorts.proofs.UsePlaces.{places_cut, names_cut}
use Rattle.gc_sorts.proofs.variables.Variables.cut.Goals as goal

pub invariant_of-self : goal.invariant_of-self
invariant_of-self c =
    let v = c.self.inside in
    names_cut v.first.names c.cut.new.self.names c.cut.ensures.names v.uses.items c.truncate.new.self.items c.args.n c.truncate.ensures.items
    v.first.order c.cut.new.self.order c.self.invariant c.cut.ensures.order

pub returns-clause-uses : goal.returns-clause-uses
returns-clause-uses c =
    let v = c.self.inside in
    subst (λ w. map (use_by c.cut.new.self.names) c.truncate.new.self.items ≡ take c.args.n w.uses) c.self.view_is
    (places_cut v.first.names c.cut.new.self.names c.cut.ensures.names v.uses.items c.truncate.new.self.items c.args.n c.truncate.ensures.items)
