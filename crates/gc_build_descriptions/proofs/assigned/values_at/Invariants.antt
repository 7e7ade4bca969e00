use Rattle.std.proofs.Common.{◌≡◌, map, take}
use Rattle.gc_build_descriptions.specs.Assigned.{contexts}
use Rattle.gc_expr.specs.Views.{numbered_expr}
use Rattle.gc_values.specs.ExprValues.{value_of}
use Rattle.gc_build_descriptions.proofs.assigned.values_at.Given as goal

-- the values on the rows so far
abbrev pub invariant-loop-place : goal.invariant-loop-place
invariant-loop-place g l = l.values.items ≡ map (λ ctx. value_of ctx l.folded (numbered_expr l.expr)) (contexts l.setting (take l.place-index l.places))
