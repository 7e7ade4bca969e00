-- What contracts see of blocks that are handed out by their trees.
use Rattle.std.specs.Prelude.{map}
use Rattle.std.specs.Option.{option_map}
use Rattle.gc_expr.specs.Views.{Names}
use Rattle.gc_ast.specs.PatternViews.{pattern_tree}
use Rattle.gc_ast.specs.QueryViews.{basic_tree, formula_tree, query_tree, statement_tree}
use Rattle.gc_ast.specs.Trees.{maybe, row, rows}
use Rattle.gc_sorts.specs.Blocks.{Block, MatchBlock, ViewBlock, Around}
use Rattle.gc_sorts.specs.Ways.{Node, AtStatements, AtQuery, AtBlock}
use Rattle.gc_sorts.specs.declared.file_block.FileBlock.{FileBlock}
use Rattle.gc_sorts.specs.declared.file_block.FileBlock.TheVariants as block
use Rattle.gc_sorts.specs.declared.file_block.PartAround.{PartAround}
use Rattle.gc_sorts.specs.declared.reached.Reached.{Reached}
use Rattle.gc_sorts.specs.declared.reached.Reached.TheVariants as reached

-- a block, by the name table of its file
abbrev pub block_by : Names → FileBlock → Block
block_by names (block.Match basic) = MatchBlock (basic_tree names basic.now)
block_by names (block.View name chains filter) =
    ViewBlock name.token (rows (map (λ chain. map (pattern_tree names) chain.parts) chains.now)) (maybe (option_map (formula_tree names) filter.now))

-- a part around a block
abbrev pub around_by : Names → PartAround → Around
around_by names a = record { basic = basic_tree names a.basic.now; part = a.part }

-- what a way has reached
abbrev pub node_by : Names → Reached → Node
node_by names (reached.Statements all) = AtStatements (row (map (statement_tree names) all.now))
node_by names (reached.Query query) = AtQuery (query_tree names query.now)
node_by names (reached.Block b) = AtBlock (block_by names b)
