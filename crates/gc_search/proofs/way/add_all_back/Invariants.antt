use Rattle.std.proofs.Common.{◌≡◌, ◌++◌}
use Rattle.gc_search.proofs.way.add_all_back.Given as goal

abbrev pub invariant-loop-step : goal.invariant-loop-step
invariant-loop-step l = l.steps.items ≡ l.initial.steps.items ++ l.yielded
