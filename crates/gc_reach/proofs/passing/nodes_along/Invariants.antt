use Rattle.std.proofs.Common.{◌≡◌, ◌++◌, drop, map}
use Rattle.gc_reach.proofs.passing.nodes_along.Given as goal

abbrev pub invariant-loop-step : goal.invariant-loop-step
invariant-loop-step l = l.ids.items ++ map (λ step. step.node) (drop l.step-index l.found.steps.items) ≡ l.initial.ids.items ++ map (λ step. step.node) l.found.steps.items
