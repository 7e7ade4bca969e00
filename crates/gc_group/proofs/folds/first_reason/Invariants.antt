use Rattle.std.proofs.Common.{◌≡◌, drop}
use Rattle.gc_group.specs.Folds.{first_reason}
use Rattle.gc_group.proofs.folds.first_reason.Given as goal

-- the rows so far have values
abbrev pub invariant-loop-value : goal.invariant-loop-value
invariant-loop-value l = first_reason (drop l.value-index l.values) ≡ first_reason l.values
