use Rattle.std.proofs.Common.{◌≡◌, None, fold, map, take}
use Rattle.std.specs.List.{flat_map}
use Rattle.gc_build_descriptions.specs.Faults.{faults_in, lesser}
use Rattle.gc_build_descriptions.specs.Givens.{given_to}
use Rattle.gc_build_descriptions.proofs.givens.given_by.Given as goal

-- what the elements so far are given, and the fault at the least of their rows
abbrev pub invariant-loop-element : goal.invariant-loop-element
invariant-loop-element g l = record {
  given : l.values ≡ map (given_to l.setting l.assignment) (take l.element-index l.element-items);
  least : l.least ≡ fold lesser None (flat_map (faults_in l.setting l.assignment) (take l.element-index l.element-items));
}
