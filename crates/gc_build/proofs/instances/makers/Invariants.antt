use Rattle.std.proofs.Common.{◌≡◌, map, take}
use Rattle.std.specs.Option.{option_copied}
use Rattle.gc_build.specs.Makers.{maker_of}
use Rattle.gc_build.proofs.instances.makers.Given as goal

-- those of the places so far
abbrev pub invariant-loop-place : goal.invariant-loop-place
invariant-loop-place l = map option_copied l.makers.items ≡ map (maker_of l.making) (take l.place-index l.places)
