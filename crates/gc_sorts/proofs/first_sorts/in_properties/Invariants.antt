use Rattle.std.proofs.Common.{◌≡◌, drop, map}
use Rattle.gc_expr.specs.Views.{name_of}
use Rattle.gc_ast.specs.PatternViews.{property_use_by}
use Rattle.gc_ast.specs.Trees.{row}
use Rattle.gc_sorts.specs.Uses.{all_of, property_uses}
use Rattle.gc_sorts.specs.Variables.{first_sort}
use Rattle.gc_sorts.proofs.first_sorts.in_properties.Given as goal

-- the variable has no place so far
abbrev pub invariant-loop-property : goal.invariant-loop-property
invariant-loop-property l =
    first_sort (all_of property_uses (row (map (property_use_by (name_of l.sought.names.now)) (drop l.property-index l.property-items)))) (name_of l.sought.names.now l.sought.name)
    ≡ first_sort (all_of property_uses (row (map (property_use_by (name_of l.sought.names.now)) l.property-items))) (name_of l.sought.names.now l.sought.name)
