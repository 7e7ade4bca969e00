use Rattle.std.proofs.Common.{◌≡◌, ◌++◌, drop, map}
use Rattle.gc_ast.specs.QueryViews.{item_tree}
use Rattle.gc_ast.specs.Trees.{row}
use Rattle.gc_build_reading.specs.Namings.{names_of, scope}
use Rattle.gc_build_reading.specs.Places.{places_of}
use Rattle.gc_build_reading.proofs.placing.places_of.Given as goal

abbrev pub invariant-loop-item : goal.invariant-loop-item
invariant-loop-item l = l.places.items ++ places_of (scope l.naming) (row (map (item_tree (names_of l.naming)) (drop l.item-index l.item-items))) ≡ places_of (scope l.naming) (row (map (item_tree (names_of l.naming)) l.item-items))
