use Rattle.std.proofs.Common.{◌≡◌, ◌++◌}
use Rattle.gc_json.proofs.collected.set_of.Given as goal

-- the set has the items that were handed out, and the others are to come
abbrev pub invariant-loop-item : goal.invariant-loop-item
invariant-loop-item g l = (l.set ≡ l.yielded) × (l.fn.items.keys ≡ l.yielded ++ l.item-iterator)
