use Rattle.std.proofs.Common.{◌≡◌, drop, map}
use Rattle.gc_ast.specs.PatternViews.{pattern_tree}
use Rattle.gc_ast.specs.Trees.{rows}
use Rattle.gc_sorts.specs.Breaches.{first_among}
use Rattle.gc_sorts.specs.Patterns.{pattern_breaches, each}
use Rattle.gc_sorts.proofs.patterns.all_chains.Given as goal

abbrev pub invariant-loop-one : goal.invariant-loop-one
invariant-loop-one l =
    first_among l.found (each (each (pattern_breaches l.views.order)) (rows (map (λ c. map (pattern_tree l.views.names) c.parts) (drop l.one-index l.one-items))))
    ≡ first_among l.initial.found (each (each (pattern_breaches l.views.order)) (rows (map (λ c. map (pattern_tree l.views.names) c.parts) l.one-items)))
