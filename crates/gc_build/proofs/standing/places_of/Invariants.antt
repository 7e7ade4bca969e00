use Rattle.std.proofs.Common.{◌≡◌, ◌++◌, drop}
use Rattle.gc_build.specs.Standing.{standing}
use Rattle.gc_build.proofs.standing.places_of.Given as goal

-- those of the chains so far, before those of the rest
abbrev pub invariant-loop-one : goal.invariant-loop-one
invariant-loop-one l = l.found.items ++ standing (drop l.one-index l.kept) ≡ standing l.kept
