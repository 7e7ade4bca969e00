use Rattle.std.proofs.Common.{◌≡◌, ◌++◌, drop, map}
use Rattle.gc_expr.specs.Views.{Names, name_of}
use Rattle.gc_ast.specs.PatternViews.{property_use_by}
use Rattle.gc_ast.specs.Trees.{row}
use Rattle.gc_sorts.specs.Sizes as sizes
use Rattle.gc_sorts.specs.Uses.{all_of}
use Rattle.gc_sorts.proofs.tokens.add_element_tokens.Given as goal

abbrev pub invariant-loop-property : goal.invariant-loop-property
invariant-loop-property l =
    (names : Names) → l.tokens.items ++ all_of sizes.property_tokens (row (map (property_use_by (name_of names)) (drop l.property-index l.property-items)))
    ≡ l.initial.tokens.items ++ all_of sizes.property_tokens (row (map (property_use_by (name_of names)) l.property-items))
