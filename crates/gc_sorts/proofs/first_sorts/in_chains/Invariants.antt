use Rattle.std.proofs.Common.{◌≡◌, drop, map}
use Rattle.gc_expr.specs.Views.{name_of}
use Rattle.gc_ast.specs.PatternViews.{pattern_tree}
use Rattle.gc_ast.specs.Trees.{rows}
use Rattle.gc_sorts.specs.Uses.{all_of, pattern_uses}
use Rattle.gc_sorts.specs.Variables.{first_sort}
use Rattle.gc_sorts.proofs.first_sorts.in_chains.Given as goal

-- the variable has no place so far
abbrev pub invariant-loop-chain : goal.invariant-loop-chain
invariant-loop-chain l =
    first_sort (all_of (all_of pattern_uses) (rows (map (λ c. map (pattern_tree l.sought.names.now) c.parts) (drop l.chain-index l.chain-items)))) (name_of l.sought.names.now l.sought.name)
    ≡ first_sort (all_of (all_of pattern_uses) (rows (map (λ c. map (pattern_tree l.sought.names.now) c.parts) l.chain-items))) (name_of l.sought.names.now l.sought.name)
