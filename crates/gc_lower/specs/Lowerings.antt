-- What a lowered block is.
use Rattle.std.specs.Prelude.{◌≡◌, ℕ, List, [], Option, Some, None, slice_get}
use Rattle.gc_ast.specs.QueryViews.{file_trees}
use Rattle.gc_ast.specs.Trees.{row}
use Rattle.gc_sorts.specs.Blocks.{Around, Block, MatchBlock, ViewBlock, Placed, file_blocks}
use Rattle.gc_sorts.specs.declared.checked.Checked.{Checked}
use Rattle.gc_alg.specs.Matches.{text_tree}
use Rattle.gc_alg.specs.Trees.{Tree, ABlock, BlockOf, none}
use Rattle.gc_alg.specs.Views.{block_tree, rel_tree}
use Rattle.gc_lower.specs.Blocks.{block_of, view_block}
use Rattle.gc_lower.specs.Namings.{scope_of}
use Rattle.gc_lower.specs.Sights.{around_reads}
use Rattle.gc_lower.specs.declared.lowering.LoweredBlock.{LoweredBlock}

-- what a block asks for around which these parts stand: that of a MATCH with its OPTIONAL blocks, where it sees variables of the parts
-- around; that of a view on the graph of a number
abbrev pub lowered : Checked → (on : ℕ) → List Around → Block → Tree ABlock
lowered c on around (MatchBlock basic) = block_of (scope_of c 0) (around_reads (scope_of c 0) [] around) basic
lowered c on around (ViewBlock token chains filter) = view_block (scope_of c on) chains filter

-- a number that no block has would have the block without parts
abbrev pub lowered_if : Checked → (on : ℕ) → Option Placed → Tree ABlock
lowered_if c on None = BlockOf none []
lowered_if c on (Some placed) = lowered c on placed.around placed.block

-- the block that is due for the block of a number
abbrev pub asked_block : Checked → (number on : ℕ) → Tree ABlock
asked_block c number on = lowered_if c on (slice_get (file_blocks (row (file_trees c.file))) number)

-- a block has been lowered to this: the block that is due, and its tree in the order of the text
pub record IsLowered (due : Tree ABlock) (l : LoweredBlock) : Type 0 where
  pub is_block : block_tree l.block ≡ due
  pub is_tree : rel_tree l.tree ≡ text_tree due
