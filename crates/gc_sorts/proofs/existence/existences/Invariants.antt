use Rattle.std.proofs.Common.{◌≡◌, ◌++◌, drop, map}
use Rattle.gc_ast.specs.QueryViews.{query_tree}
use Rattle.gc_ast.specs.Trees.{row}
use Rattle.gc_sorts.specs.SortRules.{are_existence}
use Rattle.gc_sorts.proofs.existence.existences.Given as goal

abbrev pub invariant-loop-query : goal.invariant-loop-query
invariant-loop-query l =
    l.exists.items ++ are_existence (row (map (query_tree l.checker.names) (drop l.query-index l.query-items)))
    ≡ are_existence (row (map (query_tree l.checker.names) l.query-items))
