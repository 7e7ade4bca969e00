use Rattle.std.proofs.Common.{◌≡◌, ◌++◌, drop}
use Rattle.gc_reach.proofs.passing.add_all.Given as goal

abbrev pub invariant-loop-step : goal.invariant-loop-step
invariant-loop-step l = l.passed.items ++ drop l.step-index l.steps ≡ l.initial.passed.items ++ l.steps
