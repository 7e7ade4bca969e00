use Rattle.std.proofs.Common.{◌≡◌, [], Some, map, drop}
use Rattle.gc_expr.specs.Views.{Names}
use Rattle.gc_ast.specs.QueryViews.{statement_tree}
use Rattle.gc_ast.specs.Trees.{row}
use Rattle.gc_sorts.specs.Blocks.{block_in}
use Rattle.gc_sorts.specs.FileBlocks.{node_by}
use Rattle.gc_sorts.specs.Ways.{follow, led}
use Rattle.gc_sorts.proofs.following.block_at.Given as goal

-- what is reached by the steps so far leads on to the same block
abbrev pub invariant-loop-step : goal.invariant-loop-step
invariant-loop-step l =
    (names : Names) → block_in (follow [] (Some (node_by names l.at)) (drop l.step-index l.way)) ≡ block_in (led (row (map (statement_tree names) l.statements)) l.way)
