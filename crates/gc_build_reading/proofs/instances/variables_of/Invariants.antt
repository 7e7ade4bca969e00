use Rattle.std.proofs.Common.{◌≡◌, ◌++◌, drop, map}
use Rattle.gc_ast.specs.QueryViews.{part_tree}
use Rattle.gc_ast.specs.Trees.{row}
use Rattle.gc_sorts.specs.Uses.{all_of}
use Rattle.gc_build_reading.specs.Namings.{names_of, scope}
use Rattle.gc_build_reading.specs.Items.{part_variables}
use Rattle.gc_build_reading.proofs.instances.variables_of.Given as goal

abbrev pub invariant-loop-part : goal.invariant-loop-part
invariant-loop-part l = l.vars ++ all_of (part_variables (scope l.naming)) (row (map (part_tree (names_of l.naming)) (drop l.part-index l.part-items))) ≡ all_of (part_variables (scope l.naming)) (row (map (part_tree (names_of l.naming)) l.part-items))
