use Rattle.std.proofs.Common.{◌≡◌, ◌++◌, map, drop}
use Rattle.gc_alg.specs.Trees.{row}
use Rattle.gc_alg.specs.Views.{conjunct_tree, exists_tree, part_tree}
use Rattle.gc_query.specs.UsedViews.{uses_in}
use Rattle.gc_query.proofs.used_views.+uses.Given as goal

-- what is pushed, and what is left, make the whole
abbrev pub invariant-push_parts-loop-part : goal.invariant-push_parts-loop-part
invariant-push_parts-loop-part l =
    l.uses.items ++ uses_in (row (map part_tree (drop l.part-index l.parts))) ≡ l.initial.uses.items ++ uses_in (row (map part_tree l.parts))

abbrev pub invariant-push_conjuncts-loop-conjunct : goal.invariant-push_conjuncts-loop-conjunct
invariant-push_conjuncts-loop-conjunct l =
    l.uses.items ++ uses_in (row (map conjunct_tree (drop l.conjunct-index l.conjuncts))) ≡ l.initial.uses.items ++ uses_in (row (map conjunct_tree l.conjuncts))

abbrev pub invariant-push_queries-loop-query : goal.invariant-push_queries-loop-query
invariant-push_queries-loop-query l =
    l.uses.items ++ uses_in (row (map exists_tree (drop l.query-index l.queries))) ≡ l.initial.uses.items ++ uses_in (row (map exists_tree l.queries))
