use Rattle.std.proofs.Common.{◌≡◌, fold, drop}
use Rattle.gc_build_descriptions.specs.Faults.{faults_among, lesser}
use Rattle.gc_build_descriptions.proofs.faults.least_fault.Given as goal

-- the fault so far and those on the rest make the whole
abbrev pub invariant-loop-index : goal.invariant-loop-index
invariant-loop-index l =
    fold lesser l.least (faults_among l.assignment (drop l.index l.places) (drop l.index l.values)) ≡ fold lesser l.fn.so_far (faults_among l.assignment l.places l.values)
