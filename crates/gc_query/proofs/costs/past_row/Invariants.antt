use Rattle.std.proofs.Common.{◌≡◌, drop}
use Rattle.gc_query.specs.Costs.{past_from}
use Rattle.gc_query.proofs.costs.past_row.Given as goal

-- what is left decides
abbrev pub invariant-loop-number : goal.invariant-loop-number
invariant-loop-number l = past_from l.number l.x (drop l.number l.table.rows) ≡ past_from 0 l.x l.table.rows
