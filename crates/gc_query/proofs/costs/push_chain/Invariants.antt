use Rattle.std.proofs.Common.{◌≡◌, ◌++◌, map, drop}
use Rattle.gc_ast.specs.PatternViews.{pattern_tree}
use Rattle.gc_ast.specs.Trees.{row}
use Rattle.gc_lower.specs.Namings.{scope_of}
use Rattle.gc_query.specs.Costs.{chain_costs}
use Rattle.gc_query.proofs.costs.push_chain.Given as goal

-- what is pushed, and what is left, make the whole
abbrev pub invariant-loop-part : goal.invariant-loop-part
invariant-loop-part l =
    l.costs.items ++ chain_costs (scope_of l.checked 0) (row (map (pattern_tree l.checked.file.names) (drop l.part-index l.parts)))
    ≡ l.initial.costs.items ++ chain_costs (scope_of l.checked 0) (row (map (pattern_tree l.checked.file.names) l.parts))
