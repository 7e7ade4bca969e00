use Rattle.std.proofs.Common.{◌≡◌, ◌++◌, drop, map}
use Rattle.gc_ast.specs.PatternViews.{located_tree}
use Rattle.gc_ast.specs.Trees.{row}
use Rattle.gc_lower.specs.Chains.{atoms_of}
use Rattle.gc_lower.specs.Namings.{names_of, scope}
use Rattle.gc_lower.proofs.chains.atoms_of.Given as goal

-- the atoms so far and those of the rest are those of all
abbrev pub invariant-loop-located : goal.invariant-loop-located
invariant-loop-located l =
    l.atoms.items ++ atoms_of (scope l.naming) (row (map (located_tree (names_of l.naming)) (drop l.located-index l.located-items)))
    ≡ atoms_of (scope l.naming) (row (map (located_tree (names_of l.naming)) l.located-items))
