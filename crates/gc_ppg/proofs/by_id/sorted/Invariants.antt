use Rattle.std.proofs.Common.{◌≡◌, ◌++◌}
use Rattle.gc_ppg.proofs.by_id.sorted.Given as goal

-- the elements so far and those that are left are all
abbrev pub invariant-loop-element : goal.invariant-loop-element
invariant-loop-element g l = l.all.items ++ l.element-iterator ≡ l.initial.element-iterator
