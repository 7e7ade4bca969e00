use Rattle.std.proofs.Common.{◌≡◌, ◌++◌, map, drop}
use Rattle.gc_build.specs.Names.{found_of}
use Rattle.gc_build.proofs.instances.found_of.Given as goal

-- those of the names so far, before those of the rest
abbrev pub invariant-loop-name : goal.invariant-loop-name
invariant-loop-name l = map (λ v. v.now) l.found.items ++ found_of l.making (drop l.name-index l.names) ≡ found_of l.making l.names
