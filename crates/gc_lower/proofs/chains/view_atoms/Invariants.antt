use Rattle.std.proofs.Common.{◌≡◌, ◌++◌, drop, map}
use Rattle.gc_ast.specs.PatternViews.{pattern_tree}
use Rattle.gc_ast.specs.Trees.{rows}
use Rattle.gc_lower.specs.Chains.{view_atoms}
use Rattle.gc_lower.specs.Namings.{names_of, scope}
use Rattle.gc_lower.proofs.chains.view_atoms.Given as goal

-- the atoms so far and those of the rest are those of all
abbrev pub invariant-loop-chain : goal.invariant-loop-chain
invariant-loop-chain l =
    l.atoms.items ++ view_atoms (scope l.naming) (rows (map (λ c. map (pattern_tree (names_of l.naming)) c.parts) (drop l.chain-index l.chain-items)))
    ≡ view_atoms (scope l.naming) (rows (map (λ c. map (pattern_tree (names_of l.naming)) c.parts) l.chain-items))
