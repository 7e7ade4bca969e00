use Rattle.std.proofs.Common.{◌≡◌, ◌==◌, drop}
use Rattle.gc_cert.specs.Runs.{run_cost}
use Rattle.gc_check.proofs.pricing.costs.Given as goal

abbrev pub invariant-loop-step : goal.invariant-loop-step
invariant-loop-step l = (run_cost l.segments (drop l.step-index l.run) == l.left) ≡ (run_cost l.segments l.run == l.fn.cost)
