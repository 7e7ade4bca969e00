use Rattle.std.proofs.Common.{◌≡◌, ◌+◌, ◌++◌, suc, ap, sym, subst, ◌∙◌, take, drop, arith}
use Rattle.std.specs.List.{AllByRecursion}
use Rattle.gc_base.specs.Ascending.{Ascends}
use Rattle.gc_base.proofs.SetLaws.{Ascends-filter, AllByRecursion-filter}
use Rattle.gc_base.proofs.ascending.Ascending.remove.Goals as goal

pub returns-in-Ok-clause-rest : goal.returns-in-Ok-clause-rest
returns-in-Ok-clause-rest g c =
    let i = c.in-Ok.place in
    let step : suc i ≡ i + 1 = omega arith in
    c.remove-removed.ensures.items ∙ (ap (λ ys. take i ys ++ drop (suc i) ys) c.self.view_is ∙ (ap (λ k. take i c.args.self.now ++ drop k c.args.self.now) step ∙ sym c.in-Ok.ensures.others))

pub invariant_of-self : goal.invariant_of-self
invariant_of-self g c =
    let cmp = g.T.Ord.cmp in
    let xs = c.args.self.now in
    subst (λ ys. Ascends cmp ys × AllByRecursion g.T.Item.is_valid ys) (sym (returns-in-Ok-clause-rest g c)) (
      Ascends-filter cmp g.met.T.Ord.total _ xs (subst (Ascends cmp) c.self.view_is c.self.invariant.0),
      AllByRecursion-filter g.T.Item.is_valid _ xs (subst (AllByRecursion g.T.Item.is_valid) c.self.view_is c.self.invariant.1),
    )

pub returns-in-Err-clause-rest : goal.returns-in-Err-clause-rest
returns-in-Err-clause-rest g c = sym c.in-Err.ensures.others
