use Rattle.std.proofs.Common.{◌≡◌, take}
use Rattle.gc_group.specs.Folds.{collected}
use Rattle.gc_group.proofs.listed.set_of.Given as goal

-- the set of the literals so far
abbrev pub invariant-loop-entry : goal.invariant-loop-entry
invariant-loop-entry l = l.set ≡ collected (take l.entry-index l.listed)
