use Rattle.std.proofs.Common.{◌≡◌, drop, map}
use Rattle.gc_ast.specs.QueryViews.{part_tree}
use Rattle.gc_ast.specs.Trees.{row}
use Rattle.gc_build_reading.specs.Namings.{names_of, scope}
use Rattle.gc_build_reading.specs.ToldLists.{with_parts}
use Rattle.gc_build_reading.proofs.told.Told.add_parts.Given as goal

abbrev pub invariant-loop-part : goal.invariant-loop-part
invariant-loop-part l = with_parts (scope l.naming) l.self (row (map (part_tree (names_of l.naming)) (drop l.part-index l.part-items))) ≡ with_parts (scope l.naming) l.initial.self (row (map (part_tree (names_of l.naming)) l.part-items))
