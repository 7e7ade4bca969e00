use Rattle.std.proofs.Common.{◌≡◌, ◌++◌, drop, map}
use Rattle.gc_ast.specs.PatternViews.{group_term_tree}
use Rattle.gc_ast.specs.Trees.{row}
use Rattle.gc_build_reading.specs.Namings.{names_of, scope}
use Rattle.gc_build_reading.specs.Items.{terms_of}
use Rattle.gc_build_reading.proofs.told.add_terms.Given as goal

abbrev pub invariant-loop-one : goal.invariant-loop-one
invariant-loop-one l = l.list ++ terms_of (scope l.naming) l.var (row (map (group_term_tree (names_of l.naming)) (drop l.one-index l.one-items))) ≡ l.initial.list ++ terms_of (scope l.naming) l.var (row (map (group_term_tree (names_of l.naming)) l.one-items))
