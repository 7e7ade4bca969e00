use Rattle.gc_ast.specs.PatternViews.{located_tree}
use Rattle.gc_sorts.specs.Sizes as sizes
use Rattle.gc_sorts.proofs.Rows.{all_of_step}
use Rattle.gc_sorts.proofs.tokens.located_tokens.Goals as goal

pub loop-located-preserved : goal.loop-located-preserved
loop-located-preserved c names =
    all_of_step sizes.located_tokens (located_tree names)
    c.as_slice-located-items.result.now c.loop-located.located-index c.located-item.result c.loop-located-test.true c.located-item.is
    c.loop-located.tokens.items c.add_chain_tokens.new.tokens.items _ (c.in_ok-add_chain_tokens.ensures names) (c.loop-located.invariant names)
