use Rattle.std.proofs.Common.{◌↔◌, ◌≤◌, List}
use Rattle.gc_rows.specs.declared.row.Binding.{Binding}
use Rattle.gc_exec.specs.Cursors.{IsAhead, ahead}
use Rattle.gc_exec.proofs.cursor.Cursor.pull.Given as goal

-- the same rows are to come, and no more is left
abbrev pub invariant-steps : goal.invariant-steps
invariant-steps g l =
    let was = l.initial.self in
    let is = l.self in
    ((u : List Binding) → IsAhead was.task was.plan.now was.state u ↔ IsAhead is.task is.plan.now is.state u)
    × (ahead is.task is.plan.now is.state ≤ ahead was.task was.plan.now was.state)

abbrev pub decreases-steps : goal.decreases-steps
decreases-steps g l = ahead l.self.task l.self.plan.now l.self.state
