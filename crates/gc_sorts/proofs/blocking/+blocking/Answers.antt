use Rattle.std.proofs.Common.{◌≡◌, rules, sym, ap, ◌∙◌, arith}
use Rattle.std.proofs.lemmas.List.{drop_all}
use Rattle.gc_expr.specs.Views.{name_of}
use Rattle.gc_ast.specs.declared.construct.Change.{the_lemmas}
use Rattle.gc_ast.specs.PatternViews.{named_by}
use Rattle.gc_ast.specs.QueryViews.{head_by, head_tree, next_term_tree, optional_tree, query_by, query_tree}
use Rattle.gc_ast.specs.Trees as tree
use Rattle.gc_sorts.specs.Ways.{with_ways}
use Rattle.gc_sorts.proofs.BlockingLaws.{basic_made, basic_term, filtered, graph_head, no_filter, no_optionals, no_rest, on_ok, optionals_on, query_made, query_term, rest_on}
use Rattle.gc_sorts.proofs.blocking.+blocking.Goals as goal

pub query-returns-clause-ways : goal.query-returns-clause-ways
query-returns-clause-ways t c =
    on_ok c.rest.result
    (λ made names. query_made names c.args.query.now c.args.walk.now.here c.heads.new.walk.here c.term_at.new.walk.here c.args.walk.now.ways c.heads.new.walk.ways c.term_at.new.walk.ways c.rest.new.walk.ways
    c.in_ok-heads.ensures.here c.in_ok-term_at.ensures.here (c.in_ok-heads.ensures.ways names) (c.in_ok-term_at.ensures.ways names) (made names)) c.rest.ensures.ways

pub basic-returns-clause-ways : goal.basic-returns-clause-ways
basic-returns-clause-ways t c =
    on_ok c.optionals.result
    (λ made names. basic_made names c.args.basic.now c.args.walk.now c.arrive.new.self c.part.new.walk.here c.part.new.walk.ways c.optionals.new.walk.ways
    c.in_ok-arrive.ensures c.in_ok-part.ensures.here (c.in_ok-part.ensures.ways names) (made names)) c.optionals.ensures.ways

pub head-returns-in-Graph-clause-ways : goal.head-returns-in-Graph-clause-ways
unfolding head_by query_by
head-returns-in-Graph-clause-ways t c =
    on_ok c.query.result
    (λ made names.
    let e : head_tree names c.args.head.now ≡ tree.GraphHead (named_by (name_of names) c.in-Graph.name) (query_tree names c.in-Graph.declared) = rw c.in-Graph.is (search (rules, the_lemmas)) in
    made names ∙ ap (with_ways c.args.walk.now.ways) (graph_head c.args.walk.now.here (head_tree names c.args.head.now) _ _ e)) c.query.ensures.ways

pub term-returns-in-Basic-clause-ways : goal.term-returns-in-Basic-clause-ways
term-returns-in-Basic-clause-ways t c =
    on_ok c.basic.result (λ made names. made names ∙ ap (with_ways c.args.walk.now.ways) (basic_term names c.args.walk.now.here c.in-Basic.one c.deref.result.now c.args.term.now c.in-Basic.is c.deref.ensures)) c.basic.ensures.ways

pub term-returns-in-Query-clause-ways : goal.term-returns-in-Query-clause-ways
term-returns-in-Query-clause-ways t c =
    on_ok c.query.result (λ made names. made names ∙ ap (with_ways c.args.walk.now.ways) (query_term names c.args.walk.now.here c.in-Query.inner c.deref-in-Query.result.now c.args.term.now c.in-Query.is c.deref-in-Query.ensures)) c.query.ensures.ways

pub part-returns-in-None-clause-ways : goal.part-returns-in-None-clause-ways
part-returns-in-None-clause-ways t c = λ names. sym (ap (with_ways c.args.walk.now.ways) (no_filter names c.args.walk.now.here c.args.part c.args.block.now c.in-None.is))

pub part-returns-in-Some-clause-ways : goal.part-returns-in-Some-clause-ways
part-returns-in-Some-clause-ways t c =
    on_ok c.queries.result (λ made names. made names ∙ ap (with_ways c.args.walk.now.ways) (filtered names c.args.walk.now.here c.args.part c.args.block.now c.in-Some.formula c.in-Some.is)) c.queries.ensures.ways

pub rest-loop-i-preserved : goal.rest-loop-i-preserved
rest-loop-i-preserved t c = record {
  here = c.in_ok-term_at.ensures.here ∙ c.loop-i.invariant.here;
  ways = λ names. rest_on names c.args.walk.now.here c.loop-i.walk.here c.deref-next-items.result.now c.args.rest.now.items c.deref-next-items.ensures.value c.loop-i.i c.next-item.result (omega (arith, c.loop-i-test.true)) c.next-item.is
      c.in_ok-number.field-0 c.in_ok-number.ensures c.loop-i.invariant.here c.loop-i.walk.ways c.term_at.new.walk.ways _ (c.in_ok-term_at.ensures.ways names) (c.loop-i.invariant.ways names);
}

pub rest-returns-clause-ways : goal.rest-returns-clause-ways
rest-returns-clause-ways t c = λ names.
    sym (ap (with_ways c.loop-i.walk.ways) (no_rest c.args.walk.now.here _ _ (next_term_tree names) (drop_all c.loop-i.i c.args.rest.now.items (omega (arith, c.loop-i-test.false, c.deref-next-items.ensures))))) ∙ c.loop-i.invariant.ways names

pub optionals-loop-i-preserved : goal.optionals-loop-i-preserved
optionals-loop-i-preserved t c = record {
  here = c.in_ok-part.ensures.here ∙ c.loop-i.invariant.here;
  ways = λ names. optionals_on names c.args.walk.now.here c.loop-i.walk.here c.deref-one-items.result.now c.args.optionals.now.items c.deref-one-items.ensures.value c.loop-i.i c.one-item.result (omega (arith, c.loop-i-test.true)) c.one-item.is
      c.in_ok-number.field-0 c.in_ok-number.ensures c.loop-i.invariant.here c.loop-i.walk.ways c.part.new.walk.ways _ (c.in_ok-part.ensures.ways names) (c.loop-i.invariant.ways names);
}

pub optionals-returns-clause-ways : goal.optionals-returns-clause-ways
optionals-returns-clause-ways t c = λ names.
    sym (ap (with_ways c.loop-i.walk.ways) (no_optionals c.args.walk.now.here _ _ (optional_tree names) (drop_all c.loop-i.i c.args.optionals.now.items (omega (arith, c.loop-i-test.false, c.deref-one-items.ensures))))) ∙ c.loop-i.invariant.ways names
