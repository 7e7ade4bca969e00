use Rattle.std.proofs.Common.{◌≡◌, ◌++◌, drop, map}
use Rattle.gc_expr.specs.Views.{name_of}
use Rattle.gc_ast.specs.PatternViews.{property_use_by}
use Rattle.gc_ast.specs.Trees.{row}
use Rattle.gc_sorts.specs.Uses.{all_of, property_uses}
use Rattle.gc_sorts.proofs.uses.add_properties.Given as goal

-- the places so far and those of the rest are those of all
abbrev pub invariant-loop-property : goal.invariant-loop-property
invariant-loop-property l = record {
  names : l.variables.names ≡ l.initial.variables.names;
  uses : l.variables.uses ++ all_of property_uses (row (map (property_use_by (name_of l.initial.variables.names)) (drop l.property-index l.property-items))) ≡ l.initial.variables.uses ++ all_of property_uses (row (map (property_use_by (name_of l.initial.variables.names)) l.property-items));
}
