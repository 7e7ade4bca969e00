use Rattle.std.proofs.Common.{◌≡◌, ◌++◌, Some, rules, slice_get, arith, sym, ap, ◌∙◌}
use Rattle.gc_ast.specs.declared.construct.Change.{the_lemmas}
use Rattle.gc_ast.specs.PatternViews.{named_by}
use Rattle.gc_ast.specs.QueryViews.{head_by, head_tree, query_by, query_tree, term_by, term_tree}
use Rattle.gc_ast.specs.Trees as tree
use Rattle.gc_ast.specs.Trees.{row}
use Rattle.gc_expr.specs.Views.{name_of}
use Rattle.gc_lower.specs.PathHeads.{path_heads}
use Rattle.gc_query.proofs.AllOf.{got}
use Rattle.gc_query.proofs.Outcomes.{if_ok}
use Rattle.gc_query.proofs.PathHeads.{in_basic, in_query, joined_on, next_term, one_head, shown, three}
use Rattle.gc_query.proofs.path_heads.+heads.Goals as goal

pub push_head-returns-in_ok-push-in-Path : goal.push_head-returns-in_ok-push-in-Path
push_head-returns-in_ok-push-in-Path t c = λ names.
    one_head names c.args.heads.now.items c.push.new.self.items c.args.head c.in-Path.name c.in-Path.chains c.in-Path.filter c.in-Path.cost c.in_ok-push-in-Path.ensures.items c.in-Path.is

pub push_head-returns-in-Graph : goal.push_head-returns-in-Graph
unfolding path_heads head_by query_by
push_head-returns-in-Graph t c =
    if_ok _ _ (λ u h names.
    let e : head_tree names c.args.head.now ≡ tree.GraphHead (named_by (name_of names) c.in-Graph.name) (query_tree names c.in-Graph.query) = rw c.in-Graph.is (search (rules, the_lemmas)) in
    h names ∙ ap (λ hs. shown names c.args.heads.now.items ++ hs) (sym (ap path_heads e))) c.push_query.result c.push_query.ensures

pub push_query-returns : goal.push_query-returns
push_query-returns t c =
    if_ok _ _ (λ u h names.
    three names c.args.heads.now.items c.push_heads.new.heads.items c.push_term.new.heads.items c.push_rest.new.heads.items c.args.query.now c.deref.result.now c.deref-2.result.now
    c.deref.ensures.value c.deref-2.ensures.value (c.in_ok-push_heads.ensures names) (c.in_ok-push_term.ensures names) (h names)) c.push_rest.result c.push_rest.ensures

pub push_rest-loop-next-preserved : goal.push_rest-loop-next-preserved
push_rest-loop-next-preserved t c = λ names.
    let at : slice_get c.args.rest.now c.loop-next.next-index ≡ Some c.next-item.result = got c.args.rest.now c.loop-next.next-index c.next-item.result (omega arith) c.next-item.is in
    joined_on names c.loop-next.heads.items c.push_term.new.heads.items c.args.heads.now.items _ _ _ (c.in_ok-push_term.ensures names)
    (ap (λ hs. shown names c.loop-next.heads.items ++ hs) (sym (next_term names c.args.rest.now c.loop-next.next-index c.next-item.result at)) ∙ c.loop-next.invariant names)

pub push_term-returns-in-Basic : goal.push_term-returns-in-Basic
push_term-returns-in-Basic t c = λ names. in_basic names c.args.heads.now.items c.in-Basic.field-0 c.args.term.now c.in-Basic.is

pub push_term-returns-in-Graph : goal.push_term-returns-in-Graph
unfolding path_heads term_by
push_term-returns-in-Graph t c = λ names.
    let e : term_tree names c.args.term.now ≡ tree.GraphTerm (named_by (name_of names) c.in-Graph.field-0) = rw c.in-Graph.is (search (rules, the_lemmas)) in
    search (rules, e)

pub push_term-returns-in-Query : goal.push_term-returns-in-Query
push_term-returns-in-Query t c =
    if_ok _ _ (λ u h names. h names ∙ ap (λ hs. shown names c.args.heads.now.items ++ hs)
    (ap (λ q. path_heads (query_tree names q)) c.deref.ensures ∙ in_query names c.in-Query.query c.args.term.now c.in-Query.is)) c.push_query.result c.push_query.ensures
