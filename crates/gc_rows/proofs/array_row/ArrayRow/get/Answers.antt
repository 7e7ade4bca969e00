use Rattle.std.proofs.Common.{sym, ap, ◌∙◌}
use Rattle.gc_rows.specs.Rows.{datum_at}
use Rattle.gc_rows.proofs.ArrayLaws.{datum_cell}
use Rattle.gc_rows.proofs.array_row.ArrayRow.get.Goals as goal

pub returns : goal.returns
returns c =
    c.cell_of.ensures ∙ (sym (datum_cell c.self.inside.schema.now c.self.inside.cells.now c.args.var c.self.invariant.distinct) ∙ ap (λ r. datum_at r.row c.args.var) c.self.view_is)
