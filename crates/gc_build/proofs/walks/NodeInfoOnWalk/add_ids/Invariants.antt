use Rattle.std.proofs.Common.{◌≡◌, ◌++◌, drop, map}
use Rattle.gc_values.specs.PathParts.{nodes_along}
use Rattle.gc_build.proofs.walks.NodeInfoOnWalk.add_ids.Given as goal

-- those of the steps so far, before those of the rest
abbrev pub invariant-loop-step : goal.invariant-loop-step
invariant-loop-step l = l.ids.items ++ map (λ step. step.node) (drop l.step-index l.walk.steps) ≡ l.fn.ids.items ++ nodes_along l.walk
