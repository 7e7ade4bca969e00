use Rattle.std.proofs.Common.{◌≡◌, ◌≤◌, ◌*◌, ◌^◌, map, take}
use Rattle.std.specs.List.{sum}
use Rattle.gcore.specs.Summaries.{cost_of, greatest}
use Rattle.gcore.proofs.summary.costs_in.Given as goal

-- the costs of the nodes so far
abbrev pub invariant-loop-i : goal.invariant-loop-i
invariant-loop-i g l = record {
  sum : l.costs.sum ≡ sum (map cost_of (take l.i l.answer.nodes));
  greatest : l.costs.greatest ≡ greatest (map cost_of (take l.i l.answer.nodes));
  few : l.costs.sum ≤ l.i * 9223372036854775808;
}
