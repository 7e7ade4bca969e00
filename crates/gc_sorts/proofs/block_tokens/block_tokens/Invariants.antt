use Rattle.std.proofs.Common.{◌≡◌, [], drop}
use Rattle.gc_ast.specs.QueryViews.{file_trees}
use Rattle.gc_ast.specs.Trees.{row}
use Rattle.gc_sorts.specs.BlockTokens.{with_tokens}
use Rattle.gc_sorts.specs.Blocks.{file_blocks}
use Rattle.gc_sorts.proofs.block_tokens.block_tokens.Given as goal

-- those so far and those of the rest are those of all
abbrev pub invariant-loop-number : goal.invariant-loop-number
invariant-loop-number l =
    with_tokens l.tokens l.number (drop l.number (file_blocks (row (file_trees l.file)))) ≡ with_tokens [] 0 (file_blocks (row (file_trees l.file)))
