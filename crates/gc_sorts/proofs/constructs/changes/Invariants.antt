use Rattle.std.proofs.Common.{◌≡◌, drop, map}
use Rattle.gc_ast.specs.QueryViews.{change_tree}
use Rattle.gc_ast.specs.Trees.{row}
use Rattle.gc_sorts.specs.Breaches.{first_among}
use Rattle.gc_sorts.specs.Constructs.{change_breaches}
use Rattle.gc_sorts.specs.Patterns.{each}
use Rattle.gc_sorts.proofs.constructs.changes.Given as goal

abbrev pub invariant-loop-one : goal.invariant-loop-one
invariant-loop-one l =
    first_among l.found (each (change_breaches l.making.all) (row (map (change_tree l.making.names) (drop l.one-index l.one-items))))
    ≡ first_among l.initial.found (each (change_breaches l.making.all) (row (map (change_tree l.making.names) l.one-items)))
