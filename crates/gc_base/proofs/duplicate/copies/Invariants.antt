use Rattle.std.proofs.Common.{◌≡◌, take}
use Rattle.gc_base.proofs.duplicate.copies.Given as goal

-- the copies so far are the items so far
abbrev pub invariant-loop-item : goal.invariant-loop-item
invariant-loop-item g l = l.copied.items ≡ take l.item-index l.items
