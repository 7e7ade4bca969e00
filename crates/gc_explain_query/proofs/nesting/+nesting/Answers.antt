use Rattle.gc_alg.specs.Views.{conjunct_tree, exists_tree, part_tree}
use Rattle.gc_explain_query.specs.NestedQueries.{nested}
use Rattle.gc_explain_query.proofs.Nested.{adds_next, adds_query, on_ok}
use Rattle.gc_explain_query.proofs.nesting.+nesting.Goals as goal

pub in_parts-loop-part-preserved : goal.in_parts-loop-part-preserved
in_parts-loop-part-preserved t c =
    adds_next (λ p. nested c.args.around.now (part_tree p)) c.args.graphs.now c.args.parts.now c.loop-part.part-index c.part-item.result
    c.args.number.now c.loop-part.number c.in_part.new.number c.args.text.now.items c.loop-part.text.items c.in_part.new.text.items
    c.loop-part-test.true c.part-item.is c.loop-part.invariant c.in_ok-in_part.ensures

pub in_conjuncts-loop-conjunct-preserved : goal.in_conjuncts-loop-conjunct-preserved
in_conjuncts-loop-conjunct-preserved t c =
    adds_next (λ d. nested c.args.around.now (conjunct_tree d)) c.args.graphs.now c.args.conjuncts.now c.loop-conjunct.conjunct-index c.conjunct-item.result
    c.args.number.now c.loop-conjunct.number c.in_conjunct.new.number c.args.text.now.items c.loop-conjunct.text.items c.in_conjunct.new.text.items
    c.loop-conjunct-test.true c.conjunct-item.is c.loop-conjunct.invariant c.in_ok-in_conjunct.ensures

pub push_queries-loop-query-preserved : goal.push_queries-loop-query-preserved
push_queries-loop-query-preserved t c =
    adds_next (λ q. nested c.args.around.now (exists_tree q)) c.args.graphs.now c.args.queries.now c.loop-query.query-index c.query-item.result
    c.args.number.now c.loop-query.number c.push_query.new.number c.args.text.now.items c.loop-query.text.items c.push_query.new.text.items
    c.loop-query-test.true c.query-item.is c.loop-query.invariant c.in_ok-push_query.ensures

pub push_query-returns : goal.push_query-returns
push_query-returns t c =
    on_ok (adds_query c.args.graphs.now c.args.around.now c.args.query.now c.args.number.now c.push_own.new.number c.push_nested.new.number
    c.args.text.now.items c.push_own.new.text.items c.push_nested.new.text.items c.in_ok-push_own.ensures) c.push_nested.result c.push_nested.ensures
