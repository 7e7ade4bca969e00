use Rattle.std.proofs.Common.{◌≡◌, take}
use Rattle.gc_build_numbers.proofs.read_graphs.uses_of.Given as goal

-- those of the variables so far
abbrev pub invariant-loop-read : goal.invariant-loop-read
invariant-loop-read l = l.uses ≡ take l.read-index l.reads
