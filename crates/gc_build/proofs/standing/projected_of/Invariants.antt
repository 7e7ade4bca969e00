use Rattle.std.proofs.Common.{◌≡◌, ◌++◌, drop}
use Rattle.gc_build.specs.Standing.{projected}
use Rattle.gc_build.proofs.standing.projected_of.Given as goal

-- those of the chains so far, before those of the rest
abbrev pub invariant-loop-one : goal.invariant-loop-one
invariant-loop-one l = l.found.items ++ projected (drop l.one-index l.kept) ≡ projected l.kept
