use Rattle.std.proofs.Common.{◌≡◌, ◌++◌, drop, map}
use Rattle.gc_build_reading.specs.Indexes.{makings_in}
use Rattle.gc_build_reading.specs.Variables.{of_kind, variable_at}
use Rattle.gc_build_reading.proofs.varying.add_kind.Given as goal

abbrev pub invariant-loop-place : goal.invariant-loop-place
invariant-loop-place l = l.variables ++ map (variable_at (makings_in l.index)) (of_kind l.kind (drop l.place-index l.firsts)) ≡ l.initial.variables ++ map (variable_at (makings_in l.index)) (of_kind l.kind l.firsts)
