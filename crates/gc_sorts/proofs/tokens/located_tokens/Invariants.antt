use Rattle.std.proofs.Common.{◌≡◌, ◌++◌, drop, map}
use Rattle.gc_expr.specs.Views.{Names}
use Rattle.gc_ast.specs.PatternViews.{located_tree}
use Rattle.gc_ast.specs.Trees.{row}
use Rattle.gc_sorts.specs.Sizes as sizes
use Rattle.gc_sorts.specs.Uses.{all_of}
use Rattle.gc_sorts.proofs.tokens.located_tokens.Given as goal

abbrev pub invariant-loop-located : goal.invariant-loop-located
invariant-loop-located l =
    (names : Names) → l.tokens.items ++ all_of sizes.located_tokens (row (map (located_tree names) (drop l.located-index l.located-items)))
    ≡ all_of sizes.located_tokens (row (map (located_tree names) l.located-items))
