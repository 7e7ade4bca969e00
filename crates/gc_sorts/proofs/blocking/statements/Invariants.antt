use Rattle.std.proofs.Common.{◌≡◌, [], drop, map}
use Rattle.gc_expr.specs.Views.{Names}
use Rattle.gc_ast.specs.QueryViews.{statement_tree}
use Rattle.gc_ast.specs.Trees.{row}
use Rattle.gc_sorts.specs.Ways.{statement_ways, with_ways}
use Rattle.gc_sorts.proofs.blocking.statements.Given as goal

abbrev pub invariant-loop-i : goal.invariant-loop-i
invariant-loop-i l = record {
  here : l.walk.here ≡ [];
  ways : (names : Names) → with_ways l.walk.ways (statement_ways l.i (row (map (statement_tree names) (drop l.i l.all.items)))) ≡ with_ways l.initial.walk.ways (statement_ways 0 (row (map (statement_tree names) l.all.items)));
}
