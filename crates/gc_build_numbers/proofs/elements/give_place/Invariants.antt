use Rattle.std.proofs.Common.{◌≡◌, fold, take}
use Rattle.gc_build_numbers.specs.Numbers.{with_place}
use Rattle.gc_build_numbers.proofs.elements.give_place.Given as goal

-- with the rows so far
abbrev pub invariant-loop-row : goal.invariant-loop-row
invariant-loop-row l = l.which ≡ fold (with_place l.place) l.initial.which (take l.row-index l.rows)
