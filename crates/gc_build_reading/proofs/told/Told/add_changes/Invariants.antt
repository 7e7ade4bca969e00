use Rattle.std.proofs.Common.{◌≡◌, drop, map}
use Rattle.gc_ast.specs.QueryViews.{change_tree}
use Rattle.gc_ast.specs.Trees.{row}
use Rattle.gc_build_reading.specs.Namings.{names_of, scope}
use Rattle.gc_build_reading.specs.ToldLists.{with_changes}
use Rattle.gc_build_reading.proofs.told.Told.add_changes.Given as goal

abbrev pub invariant-loop-change : goal.invariant-loop-change
invariant-loop-change l = with_changes (scope l.naming) l.self (row (map (change_tree (names_of l.naming)) (drop l.change-index l.change-items))) ≡ with_changes (scope l.naming) l.initial.self (row (map (change_tree (names_of l.naming)) l.change-items))
