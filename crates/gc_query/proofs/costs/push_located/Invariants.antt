use Rattle.std.proofs.Common.{◌≡◌, ◌++◌, map, drop}
use Rattle.gc_ast.specs.PatternViews.{located_tree}
use Rattle.gc_ast.specs.Trees.{row}
use Rattle.gc_lower.specs.Namings.{scope_of}
use Rattle.gc_query.specs.Costs.{located_costs}
use Rattle.gc_query.proofs.costs.push_located.Given as goal

-- what is pushed, and what is left, make the whole
abbrev pub invariant-loop-located : goal.invariant-loop-located
invariant-loop-located l =
    l.costs.items ++ located_costs (scope_of l.checked 0) (row (map (located_tree l.checked.file.names) (drop l.located-index l.patterns)))
    ≡ l.initial.costs.items ++ located_costs (scope_of l.checked 0) (row (map (located_tree l.checked.file.names) l.patterns))
