use Rattle.std.proofs.Common.{◌≡◌, Some, map, drop}
use Rattle.gc_expr.specs.Views.{Names}
use Rattle.gc_ast.specs.QueryViews.{statement_tree}
use Rattle.gc_ast.specs.Trees.{row}
use Rattle.gc_sorts.specs.FileBlocks.{around_by, node_by}
use Rattle.gc_sorts.specs.Ways.{follow, led}
use Rattle.gc_sorts.proofs.following.around_at.Given as goal

-- what is reached by the steps so far, with the parts so far, leads on to the same
abbrev pub invariant-loop-step : goal.invariant-loop-step
invariant-loop-step l =
    (names : Names) → follow (map (around_by names) l.parts.items) (Some (node_by names l.at)) (drop l.step-index l.way) ≡ led (row (map (statement_tree names) l.statements)) l.way
