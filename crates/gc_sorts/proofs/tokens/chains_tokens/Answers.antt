use Rattle.std.proofs.Common.{map}
use Rattle.gc_ast.specs.PatternViews.{pattern_tree}
use Rattle.gc_sorts.specs.Sizes as sizes
use Rattle.gc_sorts.specs.Uses.{all_of}
use Rattle.gc_sorts.proofs.Chains.{all_of_chain_step}
use Rattle.gc_sorts.proofs.tokens.chains_tokens.Goals as goal

pub loop-chain-preserved : goal.loop-chain-preserved
loop-chain-preserved c names =
    all_of_chain_step (all_of sizes.pattern_tokens) (λ chain. map (pattern_tree names) chain.parts)
    c.as_slice-chain-items.result.now c.loop-chain.chain-index c.chain-item.result c.loop-chain-test.true c.chain-item.is
    c.loop-chain.tokens.items c.add_chain_tokens.new.tokens.items _ (c.in_ok-add_chain_tokens.ensures names) (c.loop-chain.invariant names)
