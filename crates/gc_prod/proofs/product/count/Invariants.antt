use Rattle.std.proofs.Common.{◌≡◌, ◌+◌}
use Rattle.gc_prod.proofs.product.count.Given as goal

abbrev pub invariant-loop : goal.invariant-loop
invariant-loop g l = l.steps ≡ l.initial.steps + l.counter
