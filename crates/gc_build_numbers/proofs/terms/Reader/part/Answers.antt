use Rattle.std.proofs.Common.{◌≡◌, Some, ap, ◌∙◌, rules}
use Rattle.gc_rows.specs.declared.datum.Datum.TheVariants as datum
use Rattle.gc_rows.specs.Rows.{datum_at}
use Rattle.gc_expr.specs.Views.{numbered_expr}
use Rattle.gc_build_numbers.specs.Settings.{on_row}
use Rattle.gc_build_numbers.proofs.TermLaws.{part_read}
use Rattle.gc_build_numbers.proofs.terms.Reader.part.Goals as goal

pub returns-in_ok-counted-in-Some-Some : goal.returns-in_ok-counted-in-Some-Some
returns-in_ok-counted-in-Some-Some g c =
    let there : Some c.in-Some-Some.field-0-0.now ≡ datum_at c.args.row.now c.args.self.now.var = search rules in
    ap (λ values. Some (datum.Value values)) (c.in_ok-counted-in-Some-Some.ensures ∙ c.in_ok-values-in-Some-Some.ensures)
    ∙ part_read (on_row c.args.setting.now c.args.row.now) c.args.self.now (numbered_expr c.in-Some-Some.property) c.in-Some-Some.field-0-0.now (search rules) there
