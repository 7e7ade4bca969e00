use Rattle.std.proofs.Common.{map, sym, ap, ◌∙◌, arith}
use Rattle.std.specs.Option.{is_some}
use Rattle.gc_ast.specs.QueryViews.{file_trees, statement_tree}
use Rattle.gc_ast.specs.Trees.{row}
use Rattle.gc_sorts.specs.Blocks.{around_in}
use Rattle.gc_sorts.specs.FileBlocks.{around_by}
use Rattle.gc_sorts.specs.Ways.{led}
use Rattle.gc_sorts.proofs.BlockingLaws.{if_ok}
use Rattle.gc_sorts.proofs.ReadBlocks.{gone, there}
use Rattle.gc_sorts.proofs.checked.Checked.around.Goals as goal

pub returns-then-number-len : goal.returns-then-number-len
returns-then-number-len c =
    let names = c.args.self.now.file.names in
    let at = there c.args.self.now.file c.args.self.now.ways c.args.self.now.all_ways c.args.number.0 c.at.result.now c.at.ensures in
    let is = ap (λ all. led (row (map (statement_tree names) all)) c.as_slice.result.now) c.deref.ensures.value ∙ (ap (led (row (file_trees c.args.self.now.file))) c.as_slice.ensures.value ∙ at.1) in
    if_ok c.around_at.result (λ parts h. h names (ap is_some is) ∙ (ap around_in is ∙ sym (ap around_in at.2))) c.around_at.ensures

pub returns-else-number-len : goal.returns-else-number-len
returns-else-number-len c =
    ap (map (around_by c.args.self.now.file.names)) c.new.ensures.items
    ∙ sym (ap around_in (gone c.args.self.now.file c.args.self.now.ways c.args.self.now.all_ways c.args.number.0 (omega (arith, c.if-number-len.false, c.len.ensures))))
