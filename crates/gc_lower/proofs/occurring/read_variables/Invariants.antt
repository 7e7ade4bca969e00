use Rattle.std.proofs.Common.{◌≡◌, take, map}
use Rattle.gc_lower.proofs.occurring.read_variables.Given as goal

abbrev pub invariant-loop-read : goal.invariant-loop-read
invariant-loop-read l = l.vars.items ≡ map (λ r. r.var) (take l.read-index l.reads)
