use Rattle.std.proofs.Common.{map}
use Rattle.gc_ast.specs.PatternViews.{pattern_tree}
use Rattle.gc_sorts.specs.Patterns.{pattern_breaches, each}
use Rattle.gc_sorts.proofs.Chains.{each_chain_step}
use Rattle.gc_sorts.proofs.patterns.all_chains.Goals as goal

pub loop-one-preserved : goal.loop-one-preserved
loop-one-preserved c =
    each_chain_step (each (pattern_breaches c.args.views.now.order)) (λ chain. map (pattern_tree c.args.views.now.names) chain.parts)
    c.as_slice-one-items.result.now c.loop-one.one-index c.one-item.result c.loop-one-test.true c.one-item.is
    c.loop-one.found c.chain-found.result _ c.chain-found.ensures c.loop-one.invariant
