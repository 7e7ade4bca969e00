use Rattle.std.proofs.Common.{◌≡◌, ◌++◌, drop, map}
use Rattle.gc_expr.specs.Views.{Names}
use Rattle.gc_ast.specs.PatternViews.{pattern_tree}
use Rattle.gc_ast.specs.Trees.{row}
use Rattle.gc_sorts.specs.Sizes as sizes
use Rattle.gc_sorts.specs.Uses.{all_of}
use Rattle.gc_sorts.proofs.tokens.add_chain_tokens.Given as goal

abbrev pub invariant-loop-part : goal.invariant-loop-part
invariant-loop-part l =
    (names : Names) → l.tokens.items ++ all_of sizes.pattern_tokens (row (map (pattern_tree names) (drop l.part-index l.part-items)))
    ≡ l.initial.tokens.items ++ all_of sizes.pattern_tokens (row (map (pattern_tree names) l.part-items))
