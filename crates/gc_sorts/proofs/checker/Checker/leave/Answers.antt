use Rattle.std.proofs.Common.{◌∙◌, sym, ap, take, length}
use Rattle.gc_sorts.specs.Variables.{cost_names}
use Rattle.gc_sorts.proofs.UsePlaces.{costs_cut}
use Rattle.gc_sorts.proofs.checker.Checker.leave.Goals as goal

pub invariant_of-self : goal.invariant_of-self
invariant_of-self c =
    let x = c.self.inside in
    let names = sym c.cut.ensures.names in
    let m = c.args.mark in (
      c.self.invariant.0 ∙ names,
      c.self.invariant.1 ∙ names,
      c.cut-2.ensures.names ∙ c.self.invariant.2 ∙ names,
      c.self.invariant.3 ∙ names,
      c.cut-2.ensures.order ∙ ap (take m.costs) c.self.invariant.4
          ∙ costs_cut x.variables.uses m.places m.costs (c.requires.costs ∙ ap (λ v. length (cost_names (take m.places v.at.uses))) (sym c.self.view_is))
          ∙ ap cost_names (sym c.cut.ensures.uses),
      c.self.invariant.5,
    )
