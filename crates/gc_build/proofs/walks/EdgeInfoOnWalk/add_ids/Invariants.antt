use Rattle.std.proofs.Common.{◌≡◌, ◌++◌, drop, map}
use Rattle.gc_base.specs.Walks.{edges_of}
use Rattle.gc_build.proofs.walks.EdgeInfoOnWalk.add_ids.Given as goal

-- those of the steps so far, before those of the rest
abbrev pub invariant-loop-step : goal.invariant-loop-step
invariant-loop-step l = l.ids.items ++ map (λ step. step.edge) (drop l.step-index l.walk.steps) ≡ l.fn.ids.items ++ edges_of l.walk
