use Rattle.std.proofs.Common.{◌≡◌, ◌++◌, map, drop}
use Rattle.gc_ast.specs.QueryViews.{basic_tree, optional_tree}
use Rattle.gc_ast.specs.Trees.{row}
use Rattle.gc_ast.specs.declared.query.Basic.{out-Basic}
use Rattle.gc_lower.specs.Namings.{scope_of}
use Rattle.gc_query.specs.Costs.{costs_of, optional_costs}
use Rattle.gc_query.proofs.costs.costs_of.Given as goal

-- what is pushed, and what is left, make the whole
abbrev pub invariant-loop-optional : goal.invariant-loop-optional
invariant-loop-optional l =
    l.costs.items ++ optional_costs (scope_of l.checked 0) (row (map (optional_tree l.checked.file.names) (drop l.optional-index (out-Basic l.basic).optionals.items)))
    ≡ costs_of (scope_of l.checked 0) (basic_tree l.checked.file.names l.basic)
