use Rattle.std.proofs.Common.{◌≡◌, ◌++◌, drop}
use Rattle.std.specs.Option.{option_map}
use Rattle.gc_views.specs.Segments.{steps_on}
use Rattle.gc_views.proofs.trail.steps_on.Given as goal

-- the steps so far and those of the rest are those of all
abbrev pub invariant-loop-leg : goal.invariant-loop-leg
invariant-loop-leg l = option_map (λ rest. l.steps.items ++ rest) (steps_on l.row (drop l.leg-index l.legs)) ≡ steps_on l.row l.legs
