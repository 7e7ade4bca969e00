use Rattle.std.proofs.Common.{◌≡◌, ◌++◌, drop}
use Rattle.gc_lower.specs.Reads.{seen}
use Rattle.gc_lower.proofs.reads.seen.Given as goal

-- what is kept so far and of the rest is what is kept of all
abbrev pub invariant-loop-read : goal.invariant-loop-read
invariant-loop-read l = l.kept.items ++ seen l.around l.own (drop l.read-index l.reads) ≡ seen l.around l.own l.reads
