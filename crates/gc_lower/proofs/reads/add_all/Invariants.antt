use Rattle.std.proofs.Common.{◌≡◌, ◌++◌, take}
use Rattle.gc_lower.proofs.reads.add_all.Given as goal

abbrev pub invariant-loop-read : goal.invariant-loop-read
invariant-loop-read l = l.reads.items ≡ l.initial.reads.items ++ take l.read-index l.more
