use Rattle.std.proofs.Common.{◌≡◌, ◌++◌, drop, map}
use Rattle.gc_expr.specs.Views.{Names}
use Rattle.gc_ast.specs.PatternViews.{pattern_tree}
use Rattle.gc_ast.specs.Trees.{rows}
use Rattle.gc_sorts.specs.Sizes as sizes
use Rattle.gc_sorts.specs.Uses.{all_of}
use Rattle.gc_sorts.proofs.tokens.chains_tokens.Given as goal

abbrev pub invariant-loop-chain : goal.invariant-loop-chain
invariant-loop-chain l =
    (names : Names) → l.tokens.items ++ all_of (all_of sizes.pattern_tokens) (rows (map (λ c. map (pattern_tree names) c.parts) (drop l.chain-index l.chain-items)))
    ≡ all_of (all_of sizes.pattern_tokens) (rows (map (λ c. map (pattern_tree names) c.parts) l.chain-items))
