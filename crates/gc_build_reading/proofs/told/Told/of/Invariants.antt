use Rattle.std.proofs.Common.{◌≡◌, drop, map}
use Rattle.gc_ast.specs.QueryViews.{item_tree}
use Rattle.gc_ast.specs.Trees.{row}
use Rattle.gc_build_reading.specs.Namings.{names_of, scope}
use Rattle.gc_build_reading.specs.ToldLists.{nothing, with_items}
use Rattle.gc_build_reading.proofs.told.Told.of.Given as goal

abbrev pub invariant-loop-item : goal.invariant-loop-item
invariant-loop-item l = with_items (scope l.naming) l.told (row (map (item_tree (names_of l.naming)) (drop l.item-index l.item-items))) ≡ with_items (scope l.naming) nothing (row (map (item_tree (names_of l.naming)) l.item-items))
