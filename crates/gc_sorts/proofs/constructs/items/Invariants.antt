use Rattle.std.proofs.Common.{◌≡◌, drop, map}
use Rattle.gc_ast.specs.QueryViews.{item_tree}
use Rattle.gc_ast.specs.Trees.{row}
use Rattle.gc_sorts.specs.Breaches.{first_among}
use Rattle.gc_sorts.specs.Constructs.{item_breaches}
use Rattle.gc_sorts.specs.Graphs.{known}
use Rattle.gc_sorts.specs.Patterns.{each}
use Rattle.gc_sorts.proofs.constructs.items.Given as goal

abbrev pub invariant-loop-one : goal.invariant-loop-one
invariant-loop-one l =
    first_among l.found (each (item_breaches (known l.graphs) l.making.all) (row (map (item_tree l.making.names) (drop l.one-index l.one-items))))
    ≡ first_among l.initial.found (each (item_breaches (known l.graphs) l.making.all) (row (map (item_tree l.making.names) l.one-items)))
