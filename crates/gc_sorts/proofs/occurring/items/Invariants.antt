use Rattle.std.proofs.Common.{◌≡◌, drop, map}
use Rattle.gc_ast.specs.QueryViews.{item_tree}
use Rattle.gc_ast.specs.Trees.{row}
use Rattle.gc_sorts.specs.Collected.{collect}
use Rattle.gc_sorts.specs.Occurrences.{each, in_item}
use Rattle.gc_sorts.proofs.occurring.items.Given as goal

abbrev pub invariant-loop-one : goal.invariant-loop-one
invariant-loop-one l =
    collect l.found (each (in_item l.sight.at) (row (map (item_tree l.sight.names) (drop l.one-index l.one-items))))
    ≡ collect l.initial.found (each (in_item l.sight.at) (row (map (item_tree l.sight.names) l.one-items)))
