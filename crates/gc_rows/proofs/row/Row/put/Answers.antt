use Rattle.std.proofs.Common.{◌≡◌, ◌∷◌, ◌++◌, ap, sym, subst, ◌∙◌, take, drop, set}
use Rattle.gc_base.proofs.SetLaws.{with_item-place, with_item-gap}
use Rattle.gc_rows.specs.declared.row.Binding.{Binding}
use Rattle.gc_rows.specs.Rows.{binding_order, bind, IsRow}
use Rattle.gc_rows.proofs.RowLaws.{IsRow-bind}
use Rattle.gc_rows.proofs.row.Row.put.Goals as goal

pub returns-in-Ok-clause-ok : goal.returns-in-Ok-clause-ok
returns-in-Ok-clause-ok c =
    let b : Binding = record { var = c.args.var; datum = c.args.datum } in
    let e : c.replace.new.dest ≡ b = cc in
    (λ j. set (c.self.view_is j) c.in-Ok.place (e j)) ∙ sym (with_item-place binding_order c.args.self.now b c.in-Ok.place c.in-Ok.ensures)

pub invariant_of-self : goal.invariant_of-self
invariant_of-self c =
    let b : Binding = record { var = c.args.var; datum = c.args.datum } in
    subst IsRow (sym (returns-in-Ok-clause-ok c)) (IsRow-bind c.args.self.now b (subst IsRow c.self.view_is c.self.invariant))

pub invariant_of-self-in-Continue-1 : goal.invariant_of-self-in-Continue-1
invariant_of-self-in-Continue-1 c =
    let i = c.in-Err.place in
    let row = c.args.self.now in
    let b : Binding = record { var = c.args.var; datum = c.args.datum } in
    let items : c.insert.new.self.items ≡ bind row b =
    c.in_ok-insert-in-Err.ensures.items ∙ (ap (λ bs. take i bs ++ b ∷ drop i bs) c.self.view_is ∙ sym (with_item-gap binding_order row b i c.in-Err.ensures)) in
    subst IsRow (sym items) (IsRow-bind row b (subst IsRow c.self.view_is c.self.invariant))
