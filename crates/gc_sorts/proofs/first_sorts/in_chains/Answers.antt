use Rattle.std.proofs.Common.{map, ap, ◌∙◌, arith}
use Rattle.gc_expr.specs.Views.{name_of}
use Rattle.gc_ast.specs.PatternViews.{pattern_tree}
use Rattle.gc_ast.specs.Trees.{rows}
use Rattle.gc_sorts.specs.Uses.{all_of, pattern_uses}
use Rattle.gc_sorts.specs.Variables.{first_sort}
use Rattle.gc_sorts.proofs.FirstSorts.{row_found, row_passed}
use Rattle.gc_sorts.proofs.first_sorts.in_chains.Goals as goal

pub returns-in-Some : goal.returns-in-Some
returns-in-Some c =
    row_found (λ chain. map (pattern_tree c.args.sought.names.now) chain.parts) (all_of pattern_uses) (name_of c.args.sought.names.now c.args.sought.name) c.as_slice-chain-items.result.now c.loop-chain.chain-index c.chain-item.result (omega (arith, c.loop-chain-test.true)) c.chain-item.is c.in-Some.sort _
    c.in-Some.ensures (c.loop-chain.invariant ∙ ap (λ xs. first_sort (all_of (all_of pattern_uses) (rows (map (λ chain. map (pattern_tree c.args.sought.names.now) chain.parts) xs))) (name_of c.args.sought.names.now c.args.sought.name)) c.as_slice-chain-items.ensures)

pub loop-chain-preserved : goal.loop-chain-preserved
loop-chain-preserved c =
    row_passed (λ chain. map (pattern_tree c.args.sought.names.now) chain.parts) (all_of pattern_uses) (name_of c.args.sought.names.now c.args.sought.name) c.as_slice-chain-items.result.now c.loop-chain.chain-index c.chain-item.result (omega (arith, c.loop-chain-test.true)) c.chain-item.is _
    c.in_default.ensures c.loop-chain.invariant
