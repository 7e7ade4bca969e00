use Rattle.std.proofs.Common.{◌≡◌, drop}
use Rattle.gc_ppg.specs.Built.{bad_step_from}
use Rattle.gc_ppg.proofs.builder.GraphBuilder.bad_step_from.Given as goal

-- what is left of the steps fails where all of them do
abbrev pub invariant-loop-i : goal.invariant-loop-i
invariant-loop-i l = bad_step_from l.self.edges l.node l.i (drop l.i l.steps) ≡ bad_step_from l.self.edges l.initial.node 0 l.steps
