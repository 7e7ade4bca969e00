use Rattle.std.proofs.Common.{◌≡◌, sym, subst, arith}
use Rattle.std.proofs.lemmas.Grind.{common_steps}
use Rattle.gc_base.proofs.SetLaws.{Ascends-filter, filter-passes}
use Rattle.gc_rows.specs.Rows.{binding_order, IsRow, IsOver, lists}
use Rattle.gc_rows.specs.Algebra.{restricted}
use Rattle.gc_rows.proofs.RowLaws.{binding_order_total}
use Rattle.gc_rows.proofs.row.Row.restricted.Goals as goal

pub invariant_of-result : goal.invariant_of-result
invariant_of-result c =
    let kept : c.loop-binding.bindings.items ≡ restricted c.args.keep.now c.args.self.now = grind (arith, common_steps) in
    subst IsRow (sym kept) (Ascends-filter binding_order binding_order_total (λ b. lists c.args.keep.now b.var) c.args.self.now c.bindings-binding-items.ensures.ascends)

pub returns-clause-over : goal.returns-clause-over
returns-clause-over c =
    let kept : c.loop-binding.bindings.items ≡ restricted c.args.keep.now c.args.self.now = grind (arith, common_steps) in
    subst (IsOver c.args.keep.now) (sym kept) (filter-passes (λ b. lists c.args.keep.now b.var) c.args.self.now)
