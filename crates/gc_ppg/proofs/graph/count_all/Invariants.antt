use Rattle.std.proofs.Common.{◌≡◌, ◌+◌}
use Rattle.gc_ppg.proofs.graph.count_all.Given as goal

-- one step for each element so far
abbrev pub invariant-loop : goal.invariant-loop
invariant-loop g l = l.steps ≡ l.fn.steps + l.counter
