use Rattle.std.proofs.Common.{◌≡◌, drop, map}
use Rattle.gc_expr.specs.Views.{name_of}
use Rattle.gc_ast.specs.QueryViews.{optional_tree}
use Rattle.gc_ast.specs.Trees.{row}
use Rattle.gc_sorts.specs.Uses.{all_of, optional_uses}
use Rattle.gc_sorts.specs.Variables.{first_sort}
use Rattle.gc_sorts.proofs.first_sorts.in_optionals.Given as goal

-- the variable has no place so far
abbrev pub invariant-loop-optional : goal.invariant-loop-optional
invariant-loop-optional l =
    first_sort (all_of optional_uses (row (map (optional_tree l.sought.names.now) (drop l.optional-index l.optional-items)))) (name_of l.sought.names.now l.sought.name)
    ≡ first_sort (all_of optional_uses (row (map (optional_tree l.sought.names.now) l.optional-items))) (name_of l.sought.names.now l.sought.name)
