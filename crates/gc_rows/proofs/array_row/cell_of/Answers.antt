use Rattle.std.proofs.Common.{◌<◌, length, ◌∙◌, arith}
use Rattle.gc_rows.proofs.ArrayLaws.{cell_step}
use Rattle.gc_rows.proofs.array_row.cell_of.Goals as goal

pub loop-slot-preserved : goal.loop-slot-preserved
loop-slot-preserved c =
    let l : c.loop-slot.slot < length c.args.schema.now = omega arith in
    let m : c.loop-slot.slot < length c.args.cells.now = omega (arith, c.requires) in
    cell_step c.args.schema.now c.args.cells.now c.loop-slot.slot c.args.var _ l m c.if-other-var.false ∙ c.loop-slot.invariant
