use Rattle.std.proofs.Common.{◌≡◌, drop, map}
use Rattle.gc_ast.specs.PatternViews.{located_tree}
use Rattle.gc_ast.specs.Trees.{row}
use Rattle.gc_sorts.specs.Breaches.{first_among}
use Rattle.gc_sorts.specs.Graphs.{known}
use Rattle.gc_sorts.specs.Patterns.{located_breaches, each}
use Rattle.gc_sorts.proofs.patterns.all_located.Given as goal

abbrev pub invariant-loop-pattern : goal.invariant-loop-pattern
invariant-loop-pattern l =
    first_among l.found (each (located_breaches (known l.graphs) l.views.order) (row (map (located_tree l.views.names) (drop l.pattern-index l.pattern-items))))
    ≡ first_among l.initial.found (each (located_breaches (known l.graphs) l.views.order) (row (map (located_tree l.views.names) l.pattern-items)))
