use Rattle.std.proofs.Common.{◌≡◌, take}
use Rattle.gc_rows.specs.Algebra.{restricted}
use Rattle.gc_rows.proofs.row.Row.restricted.Given as goal

-- what the bindings so far leave
abbrev pub invariant-loop-binding : goal.invariant-loop-binding
invariant-loop-binding l = l.bindings.items ≡ restricted l.keep (take l.binding-index l.binding-items)
