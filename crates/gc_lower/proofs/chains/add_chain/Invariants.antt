use Rattle.std.proofs.Common.{◌≡◌, ◌++◌, drop, map, None}
use Rattle.gc_ast.specs.PatternViews.{pattern_tree}
use Rattle.gc_ast.specs.Trees.{row}
use Rattle.gc_lower.specs.Chains.{chain_atoms}
use Rattle.gc_lower.specs.Namings.{names_of, scope}
use Rattle.gc_lower.proofs.chains.add_chain.Given as goal

-- the atoms so far and those of the rest are those of all
abbrev pub invariant-loop-i : goal.invariant-loop-i
invariant-loop-i l =
    l.atoms.items ++ chain_atoms (scope l.naming) l.graph l.left (row (map (pattern_tree (names_of l.naming)) (drop l.i l.parts)))
    ≡ l.initial.atoms.items ++ chain_atoms (scope l.naming) l.graph None (row (map (pattern_tree (names_of l.naming)) l.parts))
