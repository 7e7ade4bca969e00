use Rattle.std.proofs.Common.{◌≡◌, map, take}
use Rattle.gc_build_descriptions.specs.Described.{described_variable}
use Rattle.gc_build_descriptions.proofs.describing.each_described.Given as goal

-- the variables so far
abbrev pub invariant-loop-variable : goal.invariant-loop-variable
invariant-loop-variable g l = l.all ≡ map (described_variable l.setting l.recipe l.numbering.variables) (take l.variable-index l.variable-items)
