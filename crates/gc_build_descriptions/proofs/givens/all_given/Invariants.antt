use Rattle.std.proofs.Common.{◌≡◌, map, take, drop}
use Rattle.gc_build_descriptions.specs.Faults.{first_fault}
use Rattle.gc_build_descriptions.specs.Givens.{given}
use Rattle.gc_build_descriptions.proofs.givens.all_given.Given as goal

-- the assignments so far have no fault
abbrev pub invariant-loop-assignment : goal.invariant-loop-assignment
invariant-loop-assignment g l = record {
  given : l.all ≡ map (given l.setting l.numbering.variables) (take l.assignment-index l.assignments);
  faults : first_fault l.setting l.numbering.variables (drop l.assignment-index l.assignments) ≡ first_fault l.setting l.numbering.variables l.assignments;
}
