use Rattle.std.proofs.Common.{ap, ◌∙◌}
use Rattle.gc_query.specs.Costs.{is_past}
use Rattle.gc_query.proofs.PastRows.{past_here, past_later}
use Rattle.gc_query.proofs.costs.past_row.Goals as goal

pub returns-then-is_past : goal.returns-then-is_past
returns-then-is_past c =
    past_here c.args.x c.args.table.now.rows c.loop-number.number c.loop-number.invariant c.row-row.result c.row-row.ensures c.is_past.result (c.is_past.ensures ∙ ap is_past c.get.ensures) c.if-is_past.true

pub loop-number-preserved : goal.loop-number-preserved
loop-number-preserved c =
    past_later c.args.x c.args.table.now.rows c.loop-number.number c.loop-number.invariant c.row-row.result c.row-row.ensures c.is_past.result (c.is_past.ensures ∙ ap is_past c.get.ensures) c.if-is_past.false
