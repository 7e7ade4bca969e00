use Rattle.std.proofs.Common.{◌≡◌, ◌++◌, drop}
use Rattle.gc_explain.specs.PlanLines.{step_lines}
use Rattle.gc_explain.proofs.text.push_lines.Given as goal

-- the lines so far and those of the rest are all
abbrev pub invariant-loop-step : goal.invariant-loop-step
invariant-loop-step l = l.text.items ++ step_lines (drop l.step-index l.steps) ≡ l.initial.text.items ++ step_lines l.steps
