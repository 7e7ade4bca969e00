use Rattle.std.proofs.Common.{◌≡◌, map, take}
use Rattle.gc_build_descriptions.specs.Aggregates.{operand_value}
use Rattle.gc_build_descriptions.specs.Assigned.{contexts}
use Rattle.gc_build_descriptions.specs.Standing.{plain}
use Rattle.gc_build_descriptions.proofs.assigned.operands.Given as goal

-- the values on the rows so far
abbrev pub invariant-loop-place : goal.invariant-loop-place
invariant-loop-place g l = l.values.items ≡ map (operand_value (plain l.aggregate).operand) (contexts l.setting (take l.place-index l.places))
