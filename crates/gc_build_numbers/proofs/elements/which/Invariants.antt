use Rattle.std.proofs.Common.{◌≡◌, map, take}
use Rattle.std.specs.Option.{option_and_then}
use Rattle.gc_build_numbers.specs.Numbers.{which_has}
use Rattle.gc_build_numbers.proofs.elements.which.Given as goal

-- which of the elements so far each row makes
abbrev pub invariant-loop-place : goal.invariant-loop-place
invariant-loop-place g l = l.which.items ≡ map (option_and_then (which_has (take l.place l.elements))) g.keys
