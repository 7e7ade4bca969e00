use Rattle.std.proofs.Common.{◌≡◌, ◌++◌, drop}
use Rattle.gc_reach.specs.Turning.{steps_along}
use Rattle.gc_reach.proofs.passing.add_steps.Given as goal

abbrev pub invariant-loop-turn : goal.invariant-loop-turn
invariant-loop-turn l = l.passed.items ++ steps_along l.p (drop l.turn-index l.kept) ≡ l.initial.passed.items ++ steps_along l.p l.kept
