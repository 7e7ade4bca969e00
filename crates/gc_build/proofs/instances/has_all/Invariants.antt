use Rattle.std.proofs.Common.{◌≡◌, drop, map}
use Rattle.std.specs.Option.{option_copied}
use Rattle.gc_build.specs.Makers.{has_all}
use Rattle.gc_build.proofs.instances.has_all.Given as goal

-- the row makes an element of each of those so far
abbrev pub invariant-loop-maker : goal.invariant-loop-maker
invariant-loop-maker l = has_all l.place (map option_copied (drop l.maker-index l.makers)) ≡ has_all l.place (map option_copied l.makers)
