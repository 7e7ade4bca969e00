use Rattle.std.proofs.Common.{map, sym, ap, ◌∙◌, arith}
use Rattle.gc_ast.specs.QueryViews.{file_trees, statement_tree}
use Rattle.gc_ast.specs.Trees.{row}
use Rattle.gc_sorts.specs.Blocks.{block_in}
use Rattle.gc_sorts.specs.Ways.{led}
use Rattle.gc_sorts.proofs.ReadBlocks.{gone, there}
use Rattle.gc_sorts.proofs.checked.Checked.block.Goals as goal

pub returns-then-number-len : goal.returns-then-number-len
returns-then-number-len c =
    let names = c.args.self.now.file.names in
    let at = there c.args.self.now.file c.args.self.now.ways c.args.self.now.all_ways c.args.number.0 c.at.result.now c.at.ensures in
    c.block_at.ensures names
    ∙ (ap (λ all. block_in (led (row (map (statement_tree names) all)) c.as_slice.result.now)) c.deref.ensures.value
    ∙ (ap (λ way. block_in (led (row (file_trees c.args.self.now.file)) way)) c.as_slice.ensures.value ∙ (ap block_in at.1 ∙ sym (ap block_in at.2))))

pub returns-else-number-len : goal.returns-else-number-len
returns-else-number-len c =
    sym (ap block_in (gone c.args.self.now.file c.args.self.now.ways c.args.self.now.all_ways c.args.number.0 (omega (arith, c.if-number-len.false, c.len.ensures))))
