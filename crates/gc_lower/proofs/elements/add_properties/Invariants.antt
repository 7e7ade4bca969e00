use Rattle.gc_lower.specs.Namings.{names_of, scope}
use Rattle.gc_expr.specs.Views.{name_of}
use Rattle.std.proofs.Common.{◌≡◌, ◌++◌, drop, map}
use Rattle.gc_ast.specs.PatternViews.{property_use_by}
use Rattle.gc_ast.specs.Trees.{row}
use Rattle.gc_lower.specs.Chains.{property_atoms}
use Rattle.gc_lower.proofs.elements.add_properties.Given as goal

-- the atoms so far and those of the rest are those of all
abbrev pub invariant-loop-asked : goal.invariant-loop-asked
invariant-loop-asked l =
    l.atoms.items ++ property_atoms (scope l.naming) l.graph l.x l.kind (row (map (property_use_by (name_of (names_of l.naming))) (drop l.asked-index l.asked-items)))
    ≡ l.initial.atoms.items ++ property_atoms (scope l.naming) l.graph l.x l.kind (row (map (property_use_by (name_of (names_of l.naming))) l.asked-items))
