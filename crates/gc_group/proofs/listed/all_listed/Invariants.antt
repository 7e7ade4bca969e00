use Rattle.std.proofs.Common.{◌≡◌, take}
use Rattle.gc_group.specs.Folds.{all_literals}
use Rattle.gc_group.proofs.listed.all_listed.Given as goal

-- the literals of the rows so far
abbrev pub invariant-loop-value : goal.invariant-loop-value
invariant-loop-value l = l.listed.items ≡ all_literals (take l.value-index l.values)
