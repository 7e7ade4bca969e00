use Rattle.std.proofs.Common.{◌≡◌, map, take}
use Rattle.gc_build_descriptions.specs.Described.{described}
use Rattle.gc_build_descriptions.proofs.describing.each_of.Given as goal

-- the elements so far
abbrev pub invariant-loop-place : goal.invariant-loop-place
invariant-loop-place g l = l.all ≡ map (described l.setting l.recipe l.variable) (take l.place l.elements)
