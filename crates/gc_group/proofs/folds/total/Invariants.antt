use Rattle.std.proofs.Common.{◌≡◌, ◌*◌, ◌^◌, take, pos, neg_ℤ, ◌≤ℤ◌}
use Rattle.gc_group.specs.Folds.{total}
use Rattle.gc_group.proofs.folds.total.Given as goal

-- the sum of the rows so far, of which each adds at most 2^63 either way
abbrev pub invariant-loop-value : goal.invariant-loop-value
invariant-loop-value l =
    (l.sum ≡ total (take l.value-index l.values)) × (neg_ℤ (pos (2 ^ 63 * l.value-index)) ≤ℤ l.sum) × (l.sum ≤ℤ pos (2 ^ 63 * l.value-index))
