use Rattle.std.proofs.Common.{take}
use Rattle.std.specs.List.{flat_map}
use Rattle.gc_alg.specs.Views.{conjunct_tree, exists_tree, part_tree}
use Rattle.gc_explain_query.specs.NestedLines.{AddsQueries}
use Rattle.gc_explain_query.specs.NestedQueries.{nested}
use Rattle.gc_explain_query.proofs.nesting.+nesting.Given as goal

-- the lines of the queries so far
abbrev pub invariant-in_parts-loop-part : goal.invariant-in_parts-loop-part
invariant-in_parts-loop-part l =
    AddsQueries l.graphs (flat_map (λ p. nested l.around (part_tree p)) (take l.part-index l.parts))
    l.initial.number l.number l.initial.text.items l.text.items

abbrev pub invariant-in_conjuncts-loop-conjunct : goal.invariant-in_conjuncts-loop-conjunct
invariant-in_conjuncts-loop-conjunct l =
    AddsQueries l.graphs (flat_map (λ c. nested l.around (conjunct_tree c)) (take l.conjunct-index l.conjuncts))
    l.initial.number l.number l.initial.text.items l.text.items

abbrev pub invariant-push_queries-loop-query : goal.invariant-push_queries-loop-query
invariant-push_queries-loop-query l =
    AddsQueries l.graphs (flat_map (λ q. nested l.around (exists_tree q)) (take l.query-index l.queries))
    l.initial.number l.number l.initial.text.items l.text.items
