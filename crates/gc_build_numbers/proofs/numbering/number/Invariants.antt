use Rattle.std.proofs.Common.{◌≡◌, [], fold, take}
use Rattle.gc_build_numbers.specs.Numbers.{with_variable}
use Rattle.gc_build_numbers.proofs.numbering.number.Given as goal

-- the numbering of the variables so far
abbrev pub invariant-loop-variable : goal.invariant-loop-variable
invariant-loop-variable g l = l.numbering ≡ fold (with_variable l.setting) (record { next = 0; variables = [] }) (take l.variable-index l.variables)
