use Rattle.std.proofs.Common.{◌≡◌, ◌++◌, take}
use Rattle.std.specs.List.{flat_map}
use Rattle.std.specs.Fmt.{decimal}
use Rattle.gcore.specs.FaultLines.{step_text}
use Rattle.gcore.proofs.walk_text.walk_text.Given as goal

-- the steps so far have their text
abbrev pub invariant-loop-step : goal.invariant-loop-step
invariant-loop-step l = l.text.items ≡ decimal l.walk.start ++ flat_map step_text (take l.step-index l.walk.steps)
