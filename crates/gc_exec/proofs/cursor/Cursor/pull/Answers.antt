use Rattle.gc_exec.specs.Cursors.{ahead}
use Rattle.gc_exec.proofs.Pulling.{none_came, row_came}
use Rattle.gc_exec.proofs.cursor.Cursor.pull.Goals as goal

pub returns-in-Row : goal.returns-in-Row
returns-in-Row g c = row_came _ _ _ _ _ _ c.in_ok-row.field-0 c.in-Row.row c.steps.invariant.0 c.steps.invariant.1 c.in_ok-row.ensures c.in-Row.is

pub returns-in-Done : goal.returns-in-Done
returns-in-Done g c =
    let was = c.args.self.now in
    none_came _ _ _ (ahead was.task was.plan.now was.state) _ _ c.in_ok-row.field-0 c.steps.invariant.0 c.in_ok-row.ensures c.in-Done.is
