use Rattle.std.proofs.Common.{◌≡◌, drop, map}
use Rattle.gc_ast.specs.QueryViews.{item_tree}
use Rattle.gc_ast.specs.Trees.{row}
use Rattle.gc_sorts.specs.Breaches.{first_among}
use Rattle.gc_sorts.specs.Links as linking
use Rattle.gc_sorts.specs.Patterns.{each}
use Rattle.gc_sorts.proofs.loose.loose_items.Given as goal

abbrev pub invariant-loop-item : goal.invariant-loop-item
invariant-loop-item l =
    first_among l.found (each (linking.loose_item l.links.uses l.links.links) (row (map (item_tree l.links.names) (drop l.item-index l.item-items))))
    ≡ first_among l.initial.found (each (linking.loose_item l.links.uses l.links.links) (row (map (item_tree l.links.names) l.item-items)))
