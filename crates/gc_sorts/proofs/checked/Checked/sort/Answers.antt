use Rattle.std.proofs.Common.{map, sym, ap, ◌∙◌, arith}
use Rattle.std.specs.Option.{is_some}
use Rattle.gc_expr.specs.Views.{name_of}
use Rattle.gc_ast.specs.QueryViews.{file_trees, statement_tree}
use Rattle.gc_ast.specs.Trees.{row}
use Rattle.gc_sorts.specs.Blocks.{places_in}
use Rattle.gc_sorts.specs.Variables.{first_sort}
use Rattle.gc_sorts.specs.Ways.{led}
use Rattle.gc_sorts.proofs.ReadBlocks.{gone, there}
use Rattle.gc_sorts.proofs.checked.Checked.sort.Goals as goal

pub sort_at-requires : goal.sort_at-requires
sort_at-requires c =
    let names = c.args.self.now.file.names in
    let at = there c.args.self.now.file c.args.self.now.ways c.args.self.now.all_ways c.args.block.0 c.at.result.now c.at.ensures in
    ap is_some (ap (λ all. led (row (map (statement_tree names) all)) c.as_slice.result.now) c.deref.ensures.value ∙ (ap (led (row (file_trees c.args.self.now.file))) c.as_slice.ensures.value ∙ at.1))

pub returns-then-block-len : goal.returns-then-block-len
returns-then-block-len c =
    let names = c.args.self.now.file.names in
    let at = there c.args.self.now.file c.args.self.now.ways c.args.self.now.all_ways c.args.block.0 c.at.result.now c.at.ensures in
    let is = ap (λ all. led (row (map (statement_tree names) all)) c.as_slice.result.now) c.deref.ensures.value ∙ (ap (led (row (file_trees c.args.self.now.file))) c.as_slice.ensures.value ∙ at.1) in
    c.sort_at.ensures ∙ ap (λ placed. first_sort (places_in placed) (name_of names c.args.name)) (is ∙ sym at.2)

pub returns-else-block-len : goal.returns-else-block-len
returns-else-block-len c =
    sym (ap (λ placed. first_sort (places_in placed) (name_of c.args.self.now.file.names c.args.name)) (gone c.args.self.now.file c.args.self.now.ways c.args.self.now.all_ways c.args.block.0 (omega (arith, c.if-block-len.false, c.len.ensures))))
