use Rattle.std.proofs.Common.{◌≡◌, drop}
use Rattle.gc_query.specs.Costs.{first_past}
use Rattle.gc_query.proofs.costs.first_past.Given as goal

-- what is left decides
abbrev pub invariant-loop-cost : goal.invariant-loop-cost
invariant-loop-cost l = first_past (drop l.cost-index l.costs) l.table.rows ≡ first_past l.costs l.table.rows
