use Rattle.std.proofs.Common.{◌≡◌, drop, map}
use Rattle.gc_ast.specs.PatternViews.{pattern_tree}
use Rattle.gc_ast.specs.Trees.{row}
use Rattle.gc_sorts.specs.Breaches.{first_among}
use Rattle.gc_sorts.specs.Patterns.{pattern_breaches, each}
use Rattle.gc_sorts.proofs.patterns.chain.Given as goal

abbrev pub invariant-loop-part : goal.invariant-loop-part
invariant-loop-part l =
    first_among l.found (each (pattern_breaches l.views.order) (row (map (pattern_tree l.views.names) (drop l.part-index l.part-items))))
    ≡ first_among l.initial.found (each (pattern_breaches l.views.order) (row (map (pattern_tree l.views.names) l.part-items)))
