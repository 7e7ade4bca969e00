use Rattle.std.proofs.Common.{◌≡◌, drop, map}
use Rattle.gc_expr.specs.Views.{name_of}
use Rattle.gc_ast.specs.PatternViews.{located_tree}
use Rattle.gc_ast.specs.Trees.{row}
use Rattle.gc_sorts.specs.Uses.{all_of, located_uses}
use Rattle.gc_sorts.specs.Variables.{first_sort}
use Rattle.gc_sorts.proofs.first_sorts.in_located.Given as goal

-- the variable has no place so far
abbrev pub invariant-loop-located : goal.invariant-loop-located
invariant-loop-located l =
    first_sort (all_of located_uses (row (map (located_tree l.sought.names.now) (drop l.located-index l.located-items)))) (name_of l.sought.names.now l.sought.name)
    ≡ first_sort (all_of located_uses (row (map (located_tree l.sought.names.now) l.located-items))) (name_of l.sought.names.now l.sought.name)
