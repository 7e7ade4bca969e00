use Rattle.std.proofs.Common.{◌≡◌, ◌∙◌, sym, ap, map}
use Rattle.std.specs.Option.{option_map}
use Rattle.gc_ast.specs.declared.query.Query.{out-Query}
use Rattle.gc_ast.specs.declared.query.Basic.{out-Basic}
use Rattle.gc_ast.specs.declared.query.MatchBlock.{out-MatchBlock}
use Rattle.gc_ast.specs.PatternViews.{located_tree}
use Rattle.gc_ast.specs.QueryViews.{query_tree, head_tree, term_tree, next_term_tree, optional_tree, item_tree, block_tree, formula_tree}
use Rattle.gc_ast.specs.Trees.{row, maybe}
use Rattle.gc_sorts.specs.Breaches.{first_among}
use Rattle.gc_sorts.specs.Holders.{HeldSights}
use Rattle.gc_expr.specs.Views.{Names}
use Rattle.gc_sorts.specs.SortRules.{Sights, breaches, behind}
use Rattle.gc_sorts.proofs.RuleRows.{row_step, behind_step, same_next, same_optional, same_query, restored}
use Rattle.gc_sorts.proofs.RuleTrees.{query_found, basic_found, block_found, query_of, basic_of, block_of, path_of}
use Rattle.gc_sorts.proofs.rules.+rules.Goals as goal

pub rest-loop-next-preserved : goal.rest-loop-next-preserved
rest-loop-next-preserved t c =
    let s = c.args.checker.now.at in
    let view = next_term_tree c.args.checker.now.names in
    let x = c.next-item.result in
    record {
      checker = c.in_ok-found.ensures.kept ∙ c.loop-next.invariant.checker;
      found = row_step view c.deref-next-items.result.now c.loop-next.next-index x c.loop-next-test.true c.next-item.is
          s s (same_next s (view x)) c.loop-next.found c.in_ok-found.found _
          (c.in_ok-found.ensures.found ∙ ap (λ (k : HeldSights). first_among c.loop-next.found (breaches k.at (next_term_tree k.names x))) c.loop-next.invariant.checker)
          c.loop-next.invariant.found;
    }

pub optionals-loop-one-preserved : goal.optionals-loop-one-preserved
optionals-loop-one-preserved t c =
    let s = c.args.checker.now.at in
    let view = optional_tree c.args.checker.now.names in
    let x = c.one-item.result in
    record {
      checker = c.in_ok-found.ensures.kept ∙ c.loop-one.invariant.checker;
      found = row_step view c.deref-one-items.result.now c.loop-one.one-index x c.loop-one-test.true c.one-item.is
          s s (same_optional s (view x)) c.loop-one.found c.in_ok-found.found _
          (c.in_ok-found.ensures.found ∙ ap (λ (k : HeldSights). first_among c.loop-one.found (breaches k.at (optional_tree k.names x))) c.loop-one.invariant.checker)
          c.loop-one.invariant.found;
    }

pub queries-loop-one-preserved : goal.queries-loop-one-preserved
queries-loop-one-preserved t c =
    let s = c.args.checker.now.at in
    let view = query_tree c.args.checker.now.names in
    let x = c.one-item.result in
    record {
      checker = c.in_ok-found.ensures.kept ∙ c.loop-one.invariant.checker;
      found = row_step view c.deref-one-items.result.now c.loop-one.one-index x c.loop-one-test.true c.one-item.is
          s s (same_query s (view x)) c.loop-one.found c.in_ok-found.found _
          (c.in_ok-found.ensures.found ∙ ap (λ (k : HeldSights). first_among c.loop-one.found (breaches k.at (query_tree k.names x))) c.loop-one.invariant.checker)
          c.loop-one.invariant.found;
    }

pub heads-loop-one-preserved : goal.heads-loop-one-preserved
heads-loop-one-preserved t c =
    let names = c.args.checker.now.names in
    let view = head_tree names in
    let x = c.one-item.result in
    let s = c.loop-one.checker.at in
    let is_behind : c.head.new.checker.at ≡ behind s (view x) =
    ap (λ (k : HeldSights). k.at) c.in_ok-found.ensures.behind ∙ ap (λ n. behind s (head_tree n x)) c.loop-one.invariant.names in
    record {
      names = ap (λ (k : HeldSights). k.names) c.in_ok-found.ensures.behind ∙ c.loop-one.invariant.names;
      at = behind_step view c.deref-one-items.result.now c.loop-one.one-index x c.loop-one-test.true c.one-item.is
          s c.head.new.checker.at _ is_behind c.loop-one.invariant.at;
      found = row_step view c.deref-one-items.result.now c.loop-one.one-index x c.loop-one-test.true c.one-item.is
          s c.head.new.checker.at is_behind c.loop-one.found c.in_ok-found.found _
          (c.in_ok-found.ensures.found ∙ ap (λ n. first_among c.loop-one.found (breaches s (head_tree n x))) c.loop-one.invariant.names)
          c.loop-one.invariant.found;
    }

both_same : (m n : Names) → m ≡ n → (x y : Sights) → x ≡ y → ◌≡◌ {A = HeldSights} (record { names = m; at = x }) (record { names = n; at = y })
both_same m n p x y q = cc

pub query-returns-clause-kept : goal.query-returns-clause-kept
query-returns-clause-kept t c =
    let before = c.args.checker.now in
    let heads = row (map (head_tree before.names) (out-Query c.args.query.now).heads.items) in
    let after = c.in_ok-found-3.ensures.kept ∙ c.in_ok-found-2.ensures.kept ∙ c.in_ok-found.ensures.behind in
    c.restore.ensures
    ∙ both_same _ _ (ap (λ (k : HeldSights). k.names) after) _ _
    (restored before.at heads c.graph_count-graphs.result c.view_count-views.result c.graph_count-graphs.ensures c.view_count-views.ensures c.rest.new.checker.at (ap (λ (k : HeldSights). k.at) after))

pub query-returns-clause-found : goal.query-returns-clause-found
query-returns-clause-found t c =
    let b = c.args.checker.now in
    let q = c.args.query.now in
    let f1 = c.in_ok-found.found in
    let f2 = c.in_ok-found-2.found in
    let f3 = c.in_ok-found-3.found in
    query_found b.at (row (map (head_tree b.names) (out-Query q).heads.items)) (term_tree b.names (out-Query q).first) (row (map (next_term_tree b.names) (out-Query q).rest.items))
    c.args.found f1 f2 f3 c.in_ok-found.ensures.found
    (c.in_ok-found-2.ensures.found ∙ ap (λ (k : HeldSights). first_among f1 (breaches k.at (term_tree k.names (out-Query q).first))) c.in_ok-found.ensures.behind)
    (c.in_ok-found-3.ensures.found ∙ ap (λ (k : HeldSights). first_among f2 (breaches k.at (row (map (next_term_tree k.names) (out-Query q).rest.items)))) (c.in_ok-found-2.ensures.kept ∙ c.in_ok-found.ensures.behind))
    ∙ sym (ap (λ tree. first_among c.args.found (breaches b.at tree)) (query_of b.names q))

pub basic-returns-clause-found : goal.basic-returns-clause-found
basic-returns-clause-found t c =
    let b = c.args.checker.now in
    let x = out-Basic c.args.basic.now in
    let f1 = c.in_ok-found.found in
    let f2 = c.in_ok-found-2.found in
    basic_found b.at x.token (row (map (item_tree b.names) x.items.items)) (block_tree b.names x.main) (row (map (optional_tree b.names) x.optionals.items))
    c.args.found f1 f2 c.in_ok-found-3.found c.in_ok-found.ensures.found
    (c.in_ok-found-2.ensures.found ∙ ap (λ (k : HeldSights). first_among f1 (breaches k.at (block_tree k.names x.main))) c.in_ok-found.ensures.kept)
    (c.in_ok-found-3.ensures.found ∙ ap (λ (k : HeldSights). first_among f2 (breaches k.at (row (map (optional_tree k.names) x.optionals.items)))) (c.in_ok-found-2.ensures.kept ∙ c.in_ok-found.ensures.kept))
    ∙ sym (ap (λ tree. first_among c.args.found (breaches b.at tree)) (basic_of b.names c.args.basic.now))

pub block-returns-clause-found : goal.block-returns-clause-found
block-returns-clause-found t c =
    let b = c.args.checker.now in
    let x = out-MatchBlock c.args.block.now in
    block_found b.at (row (map (located_tree b.names) x.patterns)) (maybe (option_map (formula_tree b.names) x.filter))
    c.args.found c.in_ok-found.found c.in_ok-found-2.found c.in_ok-found.ensures
    (c.in_ok-found-2.ensures.found ∙ ap (λ (k : HeldSights). first_among c.in_ok-found.found (breaches k.at (maybe (option_map (formula_tree k.names) x.filter)))) c.in_ok-mark.ensures.places)
    ∙ sym (ap (λ tree. first_among c.args.found (breaches b.at tree)) (block_of b.names c.args.block.now))

pub head-returns-in_ok-declare_view-in-Path-clause-found : goal.head-returns-in_ok-declare_view-in-Path-clause-found
unfolding breaches
head-returns-in_ok-declare_view-in-Path-clause-found t c =
    let b = c.args.checker.now in
    c.in_ok-found-in-Path.ensures.found
    ∙ sym (ap (λ tree. first_among c.args.found (breaches b.at tree))
    (ap (head_tree b.names) c.in-Path.is ∙ path_of b.names c.in-Path.name c.in-Path.chains c.in-Path.filter c.in-Path.cost))
