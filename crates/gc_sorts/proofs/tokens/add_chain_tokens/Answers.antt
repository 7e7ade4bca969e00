use Rattle.std.proofs.Common.{◌++◌, ◌∙◌, ap, map}
use Rattle.gc_ast.specs.PatternViews.{pattern_tree}
use Rattle.gc_ast.specs.Trees.{row}
use Rattle.gc_sorts.specs.Sizes as sizes
use Rattle.gc_sorts.specs.Uses.{all_of}
use Rattle.gc_sorts.proofs.Rows.{all_of_step, all_of_end}
use Rattle.gc_sorts.proofs.tokens.add_chain_tokens.Goals as goal

pub loop-part-preserved : goal.loop-part-preserved
loop-part-preserved c names =
    all_of_step sizes.pattern_tokens (pattern_tree names)
    c.as_slice-part-items.result.now c.loop-part.part-index c.part-item.result c.loop-part-test.true c.part-item.is
    c.loop-part.tokens.items c.add_pattern_tokens.new.tokens.items _ (c.in_ok-add_pattern_tokens.ensures names) (c.loop-part.invariant names)

pub returns : goal.returns
returns c names =
    all_of_end sizes.pattern_tokens (pattern_tree names)
    c.as_slice-part-items.result.now c.loop-part.part-index c.loop-part-test.false c.loop-part.tokens.items _ (c.loop-part.invariant names)
    ∙ ap (λ parts. c.args.tokens.now.items ++ all_of sizes.pattern_tokens (row (map (pattern_tree names) parts))) c.as_slice-part-items.ensures
