use Rattle.std.proofs.Common.{ap, sym, ◌∙◌}
use Rattle.gc_cert_searches.proofs.RowEnds.{with_ends, without_ends}
use Rattle.gc_cert_searches.proofs.ends.ends_in.Goals as goal
use Rattle.gc_cert_searches.proofs.ends.ends_in.Goals.{in-Some+in_ok-push, in_default}

pub loop-number-preserved : goal.loop-number-preserved
loop-number-preserved c =
    let path = c.args.path in
    let rows = c.args.table.now.rows in
    let i = c.loop-number.number in
    let row = c.row-row.result in
    let ends = c.loop-number.ends.items in
    elim c.match-ends_of.branch [
      | in-Some+in_ok-push w ↦
          ap (λ e. e.items) w.ends-is
          ∙ (w.in_ok-push.ensures.items ∙ with_ends path rows i row ends c.row-row.ensures c.loop-number.invariant w.in-Some.known (sym w.in-Some.is ∙ c.ends_of.ensures))
      | in_default w ↦
          ap (λ e. e.items) w.ends-is ∙ without_ends path rows i row ends c.row-row.ensures c.loop-number.invariant (sym w.in_default.is ∙ c.ends_of.ensures)
    ]
