use Rattle.std.proofs.Common.{◌≡◌, ◌∙◌, sym, ap, map, subst}
use Rattle.std.specs.Prelude.{OnOk}
use Rattle.std.specs.Option.{option_map}
use Rattle.gc_expr.specs.Views.{Names}
use Rattle.gc_ast.specs.declared.query.Query.{out-Query}
use Rattle.gc_ast.specs.declared.query.Basic.{out-Basic}
use Rattle.gc_ast.specs.declared.query.MatchBlock.{out-MatchBlock}
use Rattle.gc_ast.specs.PatternViews.{located_tree}
use Rattle.gc_ast.specs.QueryViews.{head_tree, term_tree, next_term_tree, optional_tree, item_tree, block_tree, formula_tree}
use Rattle.gc_ast.specs.Trees.{Kind, Tree, row, maybe}
use Rattle.gc_sorts.specs.Collected.{HeldScope, collect}
use Rattle.gc_sorts.specs.Occurrences.{occurrences}
use Rattle.gc_sorts.specs.Scopes.{Scope, behind}
use Rattle.gc_sorts.proofs.Readings.{block_read, block_behind, basic_read, basic_behind, query_read, restored}
use Rattle.gc_sorts.proofs.RuleTrees.{query_of, basic_of, block_of}
use Rattle.gc_sorts.proofs.reading.+reading.Goals as goal

-- what is held behind a tree
abbrev held : Names → Scope → HeldScope
held names at = record { names = names; at = at }

abbrev after : {k : Kind} → (Names → Tree k) → HeldScope → HeldScope
after tree k = held k.names (behind k.at (tree k.names))

pub block-returns-clause-sight : goal.block-returns-clause-sight
block-returns-clause-sight t c =
    let s = c.args.sight.now in
    let x = out-MatchBlock c.args.block.now in
    subst (λ at. OnOk c.filter.result (c.filter.new.sight ≡ held s.names at))
    (block_behind s.at (row (map (located_tree s.names) x.patterns)) (maybe (option_map (formula_tree s.names) x.filter)) ∙ sym (ap (behind s.at) (block_of s.names c.args.block.now)))
    c.filter.ensures.sight

pub block-returns-clause-found : goal.block-returns-clause-found
block-returns-clause-found t c =
    let s = c.args.sight.now in
    let x = out-MatchBlock c.args.block.now in
    subst (λ f. OnOk c.filter.result (c.filter.new.found ≡ f))
    (block_read s.at (row (map (located_tree s.names) x.patterns)) (maybe (option_map (formula_tree s.names) x.filter)) c.args.found.now c.patterns.new.found c.in_ok-patterns.ensures
    ∙ sym (ap (λ tree. collect c.args.found.now (occurrences s.at tree)) (block_of s.names c.args.block.now)))
    c.filter.ensures.found

pub basic-returns-clause-sight : goal.basic-returns-clause-sight
basic-returns-clause-sight t c =
    let s = c.args.sight.now in
    let x = out-Basic c.args.basic.now in
    subst (λ k. OnOk c.optionals.result (c.optionals.new.sight ≡ k))
    (ap (after (λ names. row (map (optional_tree names) x.optionals.items))) c.in_ok-block.ensures.sight
    ∙ ap (held s.names)
    (basic_behind s.at x.token (row (map (item_tree s.names) x.items.items)) (block_tree s.names x.main) (row (map (optional_tree s.names) x.optionals.items)) ∙ sym (ap (behind s.at) (basic_of s.names c.args.basic.now))))
    c.optionals.ensures.sight

pub basic-returns-clause-found : goal.basic-returns-clause-found
basic-returns-clause-found t c =
    let s = c.args.sight.now in
    let x = out-Basic c.args.basic.now in
    subst (λ f. OnOk c.optionals.result (c.optionals.new.found ≡ f))
    (ap (λ (k : HeldScope). collect c.block.new.found (occurrences k.at (row (map (optional_tree k.names) x.optionals.items)))) c.in_ok-block.ensures.sight
    ∙ basic_read s.at x.token (row (map (item_tree s.names) x.items.items)) (block_tree s.names x.main) (row (map (optional_tree s.names) x.optionals.items))
    c.args.found.now c.items.new.found c.block.new.found c.in_ok-items.ensures c.in_ok-block.ensures.found
    ∙ sym (ap (λ tree. collect c.args.found.now (occurrences s.at tree)) (basic_of s.names c.args.basic.now)))
    c.optionals.ensures.found

both_same : (m n : Names) → m ≡ n → (x y : Scope) → x ≡ y → held m x ≡ held n y
both_same m n p x y q = cc

pub query-returns-clause-sight : goal.query-returns-clause-sight
query-returns-clause-sight t c =
    let s = c.args.sight.now in
    let x = out-Query c.args.query.now in
    let behind_term = c.in_ok-term.ensures.sight ∙ ap (after (λ names. term_tree names x.first)) c.in_ok-heads.ensures.sight in
    let behind_rest = c.in_ok-rest.ensures.sight ∙ ap (after (λ names. row (map (next_term_tree names) x.rest.items))) behind_term in
    c.restore.ensures
    ∙ both_same _ _ (ap (λ (k : HeldScope). k.names) behind_rest) _ _
    (restored s.at (row (map (head_tree s.names) x.heads.items)) (term_tree s.names x.first) (row (map (next_term_tree s.names) x.rest.items))
    c.counts-counts.result.declared c.counts-counts.result.views c.counts-counts.ensures.declared c.counts-counts.ensures.views c.counts-counts.ensures.numbers
    c.rest.new.sight.at (ap (λ (k : HeldScope). k.at) behind_rest)
    ∙ sym (ap (behind s.at) (query_of s.names c.args.query.now)))

pub query-returns-clause-found : goal.query-returns-clause-found
query-returns-clause-found t c =
    let s = c.args.sight.now in
    let x = out-Query c.args.query.now in
    let f1 = c.heads.new.found in
    let f2 = c.term.new.found in
    let behind_term = c.in_ok-term.ensures.sight ∙ ap (after (λ names. term_tree names x.first)) c.in_ok-heads.ensures.sight in
    query_read s.at (row (map (head_tree s.names) x.heads.items)) (term_tree s.names x.first) (row (map (next_term_tree s.names) x.rest.items))
    c.args.found.now f1 f2 c.rest.new.found c.in_ok-heads.ensures.found
    (c.in_ok-term.ensures.found ∙ ap (λ (k : HeldScope). collect f1 (occurrences k.at (term_tree k.names x.first))) c.in_ok-heads.ensures.sight)
    (c.in_ok-rest.ensures.found ∙ ap (λ (k : HeldScope). collect f2 (occurrences k.at (row (map (next_term_tree k.names) x.rest.items)))) behind_term)
    ∙ sym (ap (λ tree. collect c.args.found.now (occurrences s.at tree)) (query_of s.names c.args.query.now))
