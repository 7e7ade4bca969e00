use Rattle.std.proofs.Common.{◌≡◌, take}
use Rattle.std.specs.List.{flat_map}
use Rattle.gc_alg.specs.Instances.{variables_of}
use Rattle.gc_explain_query.proofs.parts.variables.Given as goal

-- those of the atoms so far
abbrev pub invariant-loop-atom : goal.invariant-loop-atom
invariant-loop-atom l = l.vars.items ≡ flat_map (λ a. variables_of a.what) (take l.atom-index l.atoms)
