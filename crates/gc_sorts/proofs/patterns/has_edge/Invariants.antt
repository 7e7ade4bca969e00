use Rattle.std.proofs.Common.{◌≡◌, drop, map}
use Rattle.gc_expr.specs.Views.{Names}
use Rattle.gc_ast.specs.PatternViews.{pattern_tree}
use Rattle.gc_ast.specs.Trees.{row}
use Rattle.gc_sorts.specs.Patterns.{has_edge}
use Rattle.gc_sorts.proofs.patterns.has_edge.Given as goal

abbrev pub invariant-loop-part : goal.invariant-loop-part
invariant-loop-part l =
    (names : Names) → has_edge (row (map (pattern_tree names) (drop l.part-index l.part-items))) ≡ has_edge (row (map (pattern_tree names) l.part-items))
