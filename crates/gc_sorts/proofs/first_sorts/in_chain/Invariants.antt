use Rattle.std.proofs.Common.{◌≡◌, drop, map}
use Rattle.gc_expr.specs.Views.{name_of}
use Rattle.gc_ast.specs.PatternViews.{pattern_tree}
use Rattle.gc_ast.specs.Trees.{row}
use Rattle.gc_sorts.specs.Uses.{all_of, pattern_uses}
use Rattle.gc_sorts.specs.Variables.{first_sort}
use Rattle.gc_sorts.proofs.first_sorts.in_chain.Given as goal

-- the variable has no place so far
abbrev pub invariant-loop-part : goal.invariant-loop-part
invariant-loop-part l =
    first_sort (all_of pattern_uses (row (map (pattern_tree l.sought.names.now) (drop l.part-index l.part-items)))) (name_of l.sought.names.now l.sought.name)
    ≡ first_sort (all_of pattern_uses (row (map (pattern_tree l.sought.names.now) l.part-items))) (name_of l.sought.names.now l.sought.name)
