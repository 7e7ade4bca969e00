use Rattle.std.proofs.Common.{◌≡◌, take}
use Rattle.std.specs.List.{filter}
use Rattle.gc_rows.specs.Rows.{lists}
use Rattle.gc_exec.proofs.top_joins.ordered.Given as goal

abbrev pub invariant-loop-var : goal.invariant-loop-var
invariant-loop-var l = l.kept.items ≡ filter (λ x. lists l.vars x) (take l.var-index l.order)
