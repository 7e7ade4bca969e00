use Rattle.std.proofs.Common.{◌≡◌, take}
use Rattle.gc_rows.proofs.row.Row.copy_with_room.Given as goal

-- the copies so far are the bindings so far
abbrev pub invariant-loop-binding : goal.invariant-loop-binding
invariant-loop-binding l = l.bindings.items ≡ take l.binding-index l.binding-items
