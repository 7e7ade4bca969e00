use Rattle.std.proofs.Common.{◌≡◌, ◌+◌, drop, map}
use Rattle.gc_expr.specs.Views.{Names}
use Rattle.gc_ast.specs.QueryViews.{head_tree, next_term_tree, optional_tree, query_tree}
use Rattle.gc_ast.specs.Trees.{row}
use Rattle.gc_sorts.specs.Ways.{exists_ways, head_ways, later_ways, optional_ways, with_ways}
use Rattle.gc_sorts.proofs.blocking.+blocking.Given as goal

abbrev pub invariant-heads-loop-i : goal.invariant-heads-loop-i
invariant-heads-loop-i l = record {
  here : l.walk.here ≡ l.initial.walk.here;
  ways : (names : Names) → with_ways l.walk.ways (head_ways l.initial.walk.here l.i (row (map (head_tree names) (drop l.i l.heads.items)))) ≡ with_ways l.initial.walk.ways (head_ways l.initial.walk.here 0 (row (map (head_tree names) l.heads.items)));
}

abbrev pub invariant-rest-loop-i : goal.invariant-rest-loop-i
invariant-rest-loop-i l = record {
  here : l.walk.here ≡ l.initial.walk.here;
  ways : (names : Names) → with_ways l.walk.ways (later_ways l.initial.walk.here (l.i + 1) (row (map (next_term_tree names) (drop l.i l.rest.items)))) ≡ with_ways l.initial.walk.ways (later_ways l.initial.walk.here 1 (row (map (next_term_tree names) l.rest.items)));
}

abbrev pub invariant-optionals-loop-i : goal.invariant-optionals-loop-i
invariant-optionals-loop-i l = record {
  here : l.walk.here ≡ l.initial.walk.here;
  ways : (names : Names) → with_ways l.walk.ways (optional_ways l.initial.walk.here (l.i + 1) (row (map (optional_tree names) (drop l.i l.optionals.items)))) ≡ with_ways l.initial.walk.ways (optional_ways l.initial.walk.here 1 (row (map (optional_tree names) l.optionals.items)));
}

abbrev pub invariant-queries-loop-i : goal.invariant-queries-loop-i
invariant-queries-loop-i l = record {
  here : l.walk.here ≡ l.initial.walk.here;
  ways : (names : Names) → with_ways l.walk.ways (exists_ways l.initial.walk.here l.part l.i (row (map (query_tree names) (drop l.i l.queries.items)))) ≡ with_ways l.initial.walk.ways (exists_ways l.initial.walk.here l.part 0 (row (map (query_tree names) l.queries.items)));
}
