use Rattle.std.proofs.Common.{◌≡◌, ◌++◌, take}
use Rattle.std.specs.List.{flat_map}
use Rattle.gc_alg.specs.Views.{conjunct_tree, exists_tree, part_tree}
use Rattle.gc_rules.specs.Occurrences.{occurring}
use Rattle.gc_rules.proofs.occurring.+occurring.Given as goal

-- the variables of the queries, the parts and the conjuncts so far
abbrev pub invariant-push_queries-loop-query : goal.invariant-push_queries-loop-query
invariant-push_queries-loop-query l = l.vars.items ≡ l.initial.vars.items ++ flat_map (λ q. occurring (exists_tree q)) (take l.query-index l.queries)

abbrev pub invariant-push_parts-loop-part : goal.invariant-push_parts-loop-part
invariant-push_parts-loop-part l = l.vars.items ≡ l.initial.vars.items ++ flat_map (λ p. occurring (part_tree p)) (take l.part-index l.parts)

abbrev pub invariant-push_conjuncts-loop-conjunct : goal.invariant-push_conjuncts-loop-conjunct
invariant-push_conjuncts-loop-conjunct l = l.vars.items ≡ l.initial.vars.items ++ flat_map (λ c. occurring (conjunct_tree c)) (take l.conjunct-index l.conjuncts)
