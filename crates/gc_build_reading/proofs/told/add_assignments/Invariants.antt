use Rattle.std.proofs.Common.{◌≡◌, ◌++◌, drop, map}
use Rattle.gc_ast.specs.QueryViews.{assign_tree}
use Rattle.gc_ast.specs.Trees.{row}
use Rattle.gc_build_reading.specs.Namings.{names_of, scope}
use Rattle.gc_build_reading.specs.Items.{assignments_of}
use Rattle.gc_build_reading.proofs.told.add_assignments.Given as goal

abbrev pub invariant-loop-assign : goal.invariant-loop-assign
invariant-loop-assign l = l.list.items ++ assignments_of (scope l.naming) l.var (row (map (assign_tree (names_of l.naming)) (drop l.assign-index l.assign-items))) ≡ l.initial.list.items ++ assignments_of (scope l.naming) l.var (row (map (assign_tree (names_of l.naming)) l.assign-items))
