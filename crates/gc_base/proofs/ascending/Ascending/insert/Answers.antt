use Rattle.std.proofs.Common.{◌≡◌, ◌∷◌, ◌++◌, take, drop, not, ap, sym, subst, ◌∙◌}
use Rattle.std.specs.List.{AllByRecursion}
use Rattle.gc_base.specs.Ascending.{Ascends, with_item}
use Rattle.gc_base.proofs.SetLaws.{with_item-present, with_item-gap, Ascends-with_item, AllByRecursion-with_item}
use Rattle.gc_base.proofs.ascending.Ascending.insert.Goals as goal

pub invariant_of-self-in-Err : goal.invariant_of-self-in-Err
invariant_of-self-in-Err g c =
    let cmp = g.T.Ord.cmp in
    let xs = c.args.self.now in
    let x = c.args.item in
    let i = c.in-Err.place in
    let items : c.insert_at.new.items.items ≡ with_item cmp xs x =
    c.in_ok-insert_at-in-Err.ensures.ok ∙ (ap (λ ys. take i ys ++ x ∷ drop i ys) c.self.view_is ∙ sym (with_item-gap cmp xs x i c.in-Err.ensures)) in
    subst (λ ys. Ascends cmp ys × AllByRecursion g.T.Item.is_valid ys) (sym items) (
      Ascends-with_item cmp g.met.T.Ord.total xs x (subst (Ascends cmp) c.self.view_is c.self.invariant.0),
      AllByRecursion-with_item cmp g.T.Item.is_valid xs x (subst (AllByRecursion g.T.Item.is_valid) c.self.view_is c.self.invariant.1) c.known.ensures,
    )

pub returns-in-Ok-clause-ok : goal.returns-in-Ok-clause-ok
returns-in-Ok-clause-ok g c = sym (with_item-present g.T.Ord.cmp g.met.T.Item.exact c.args.self.now c.args.item c.in-Ok.field-0 c.in-Ok.ensures)

pub returns-in-Ok-clause-new : goal.returns-in-Ok-clause-new
returns-in-Ok-clause-new g c = ap not (sym c.in-Ok.ensures.some)
