use Rattle.std.proofs.Common.{◌≡◌, ◌-◌, suc, drop, sym, ap, ◌∙◌, get_or, arith}
use Rattle.gc_base.specs.declared.place.Sym.{Sym}
use Rattle.gc_rows.specs.Arrays.{row_of, with_cell}
use Rattle.gc_rows.proofs.ArrayLaws.{row_from}
use Rattle.gc_rows.proofs.array_row.row_of.Goals as goal

pub loop-at-preserved : goal.loop-at-preserved
loop-at-preserved c =
    let xs = c.args.schema.now in
    let cs = c.args.cells.now in
    let at = c.loop-at.at - 1 in
    let before = c.loop-at.invariant.within in
    let next : suc at ≡ c.loop-at.at = omega (arith, c.loop-at-test.true) in
    let var : Sym = get_or xs at (record { 0 = 0 }) in
    let cell = c.index-cells-at.result in
    record {
      within = omega arith;
      row = c.in_ok-bind_cell.ensures
          ∙ ((λ i. with_cell (c.loop-at.invariant.row i) var (c.as_ref.ensures.value i))
          ∙ (ap (λ k. with_cell (row_of (drop k xs) (drop k cs)) var cell) (sym next)
          ∙ row_from xs cs at (record { 0 = 0 }) cell (omega (arith, c.loop-at-test.true)) c.requires c.index-cells-at.is));
    }
