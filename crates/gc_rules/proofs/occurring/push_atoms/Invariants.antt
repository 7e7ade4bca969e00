use Rattle.std.proofs.Common.{◌≡◌, ◌++◌, take}
use Rattle.std.specs.List.{flat_map}
use Rattle.gc_alg.specs.Instances.{variables_of}
use Rattle.gc_rules.proofs.occurring.push_atoms.Given as goal

-- the variables of the atoms so far
abbrev pub invariant-loop-atom : goal.invariant-loop-atom
invariant-loop-atom l = l.vars.items ≡ l.initial.vars.items ++ flat_map (λ a. variables_of a.what) (take l.atom-index l.atoms)
