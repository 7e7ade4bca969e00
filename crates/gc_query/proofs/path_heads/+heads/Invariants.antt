use Rattle.std.proofs.Common.{◌≡◌, ◌++◌, map, drop}
use Rattle.gc_ast.specs.QueryViews.{head_tree, next_term_tree}
use Rattle.gc_ast.specs.Trees.{row}
use Rattle.gc_expr.specs.Views.{Names}
use Rattle.gc_lower.specs.PathHeads.{path_heads}
use Rattle.gc_query.proofs.path_heads.+heads.Given as goal

-- what is pushed, and what is left, make the whole
abbrev pub invariant-push_heads-loop-head : goal.invariant-push_heads-loop-head
invariant-push_heads-loop-head l =
    (names : Names) → map (λ h. head_tree names h.now) l.heads.items ++ path_heads (row (map (head_tree names) (drop l.head-index l.more)))
    ≡ map (λ h. head_tree names h.now) l.initial.heads.items ++ path_heads (row (map (head_tree names) l.more))

abbrev pub invariant-push_rest-loop-next : goal.invariant-push_rest-loop-next
invariant-push_rest-loop-next l =
    (names : Names) → map (λ h. head_tree names h.now) l.heads.items ++ path_heads (row (map (next_term_tree names) (drop l.next-index l.rest)))
    ≡ map (λ h. head_tree names h.now) l.initial.heads.items ++ path_heads (row (map (next_term_tree names) l.rest))
