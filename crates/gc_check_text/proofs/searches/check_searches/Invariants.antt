use Rattle.std.proofs.Common.{take}
use Rattle.std.specs.List.{AllByRecursion}
use Rattle.gc_check_text.specs.Checked.{IsSound}
use Rattle.gc_check_text.proofs.searches.check_searches.Given as goal

-- those so far are accepted, and list shortest walks
abbrev pub invariant-loop-i : goal.invariant-loop-i
invariant-loop-i g l = AllByRecursion IsSound (take l.i l.searches)
