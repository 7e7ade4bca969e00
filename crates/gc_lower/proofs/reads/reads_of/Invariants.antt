use Rattle.std.proofs.Common.{◌≡◌, ◌++◌, drop}
use Rattle.gc_lower.specs.Reads.{reads_of}
use Rattle.gc_lower.proofs.reads.reads_of.Given as goal

-- the graphs so far and those of the rest are those of all
abbrev pub invariant-loop-atom : goal.invariant-loop-atom
invariant-loop-atom l = l.reads.items ++ reads_of (drop l.atom-index l.atoms) ≡ reads_of l.atoms
