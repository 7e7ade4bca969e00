use Rattle.std.proofs.Common.{sym, ◌∙◌}
use Rattle.gc_ast.specs.QueryViews.{file_trees}
use Rattle.gc_ast.specs.Trees.{row}
use Rattle.gc_sorts.specs.Blocks.{file_blocks}
use Rattle.gc_sorts.proofs.ReadBlocks.{token_kept}
use Rattle.gc_sorts.proofs.checked.Checked.block_at.Goals as goal

pub returns-in-Some : goal.returns-in-Some
returns-in-Some c = sym c.in-Some.is ∙ (c.get.ensures ∙ token_kept c.args.self.now.tokens (file_blocks (row (file_trees c.args.self.now.file))) c.args.token c.args.self.now.all_tokens)

pub returns-in-None : goal.returns-in-None
returns-in-None c = sym c.in-None.is ∙ (c.get.ensures ∙ token_kept c.args.self.now.tokens (file_blocks (row (file_trees c.args.self.now.file))) c.args.token c.args.self.now.all_tokens)
