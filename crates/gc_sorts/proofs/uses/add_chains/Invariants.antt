use Rattle.std.proofs.Common.{◌≡◌, ◌++◌, drop, map}
use Rattle.gc_ast.specs.PatternViews.{pattern_tree}
use Rattle.gc_ast.specs.Trees.{rows}
use Rattle.gc_sorts.specs.Uses.{all_of, pattern_uses}
use Rattle.gc_sorts.proofs.uses.add_chains.Given as goal

-- the places so far and those of the rest are those of all
abbrev pub invariant-loop-chain : goal.invariant-loop-chain
invariant-loop-chain l = record {
  names : l.variables.names ≡ l.initial.variables.names;
  uses : l.variables.uses ++ all_of (all_of pattern_uses) (rows (map (λ c. map (pattern_tree l.initial.variables.names) c.parts) (drop l.chain-index l.chain-items))) ≡ l.initial.variables.uses ++ all_of (all_of pattern_uses) (rows (map (λ c. map (pattern_tree l.initial.variables.names) c.parts) l.chain-items));
}
