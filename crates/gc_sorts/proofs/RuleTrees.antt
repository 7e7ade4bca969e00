-- What queries, their parts and their blocks are as trees, and what these break part by part.
use Rattle.std.proofs.Common.{◌≡◌, ℕ, List, map, Option, ap, ◌∙◌, rules}
use Rattle.std.specs.Option.{option_map}
use Rattle.gc_base.specs.declared.place.NameAt.{NameAt}
use Rattle.gc_expr.specs.Views.{Names}
use Rattle.gc_ast.specs.declared.construct.Change.{the_lemmas}
use Rattle.gc_ast.specs.declared.construct.Change.TheViews.{Path}
use Rattle.gc_ast.specs.declared.pattern.Chain as pattern
use Rattle.gc_ast.specs.declared.query.Formula.{Formula}
use Rattle.gc_ast.specs.declared.query.Query.{Query, out-Query}
use Rattle.gc_ast.specs.declared.query.Basic.{Basic, out-Basic}
use Rattle.gc_ast.specs.declared.query.MatchBlock.{MatchBlock, out-MatchBlock}
use Rattle.gc_ast.specs.Trees as tree
use Rattle.gc_ast.specs.Trees.{Tree, RowOf, AHead, ATerm, ANextTerm, AnItem, ABlock, AnOptional, ALocated, AFormula, row, rows, maybe}
use Rattle.gc_ast.specs.PatternViews.{named, pattern_tree, located_tree}
use Rattle.gc_ast.specs.QueryViews.{query_by, head_by, term_by, next_term_by, basic_by, item_by, block_by, optional_by, formula_by, query_tree, head_tree, term_tree, next_term_tree, basic_tree, item_tree, block_tree, optional_tree, formula_tree}
use Rattle.gc_sorts.specs.declared.breach.Breach.{Breach}
use Rattle.gc_sorts.specs.Breaches.{both, first_among}
use Rattle.gc_sorts.specs.Patterns.{patterns_breaches}
use Rattle.gc_sorts.specs.SortRules.{Sights, breaches, behind_all, graphs_in, seen_in, match_breaches, construct_breaches}

pub query_of : (names : Names) (q : Query)
    → query_tree names q ≡ tree.Query (row (map (head_tree names) (out-Query q).heads.items)) (term_tree names (out-Query q).first) (row (map (next_term_tree names) (out-Query q).rest.items))
unfolding query_by head_by term_by next_term_by
query_of names q = search (rules, the_lemmas)

pub basic_of : (names : Names) (b : Basic)
    → basic_tree names b ≡ tree.Basic (out-Basic b).token (row (map (item_tree names) (out-Basic b).items.items)) (block_tree names (out-Basic b).main) (row (map (optional_tree names) (out-Basic b).optionals.items))
unfolding basic_by item_by block_by optional_by
basic_of names b = search (rules, the_lemmas)

pub block_of : (names : Names) (b : MatchBlock)
    → block_tree names b ≡ tree.Block (row (map (located_tree names) (out-MatchBlock b).patterns)) (maybe (option_map (formula_tree names) (out-MatchBlock b).filter))
unfolding block_by formula_by
block_of names b = search (rules, the_lemmas)

pub path_of : (names : Names) (name : NameAt) (chains : List pattern.Chain) (filter cost : Option Formula)
    → head_tree names (Path name chains filter cost)
    ≡ tree.PathHead (named names name) (rows (map (λ c. map (pattern_tree names) c.parts) chains)) (maybe (option_map (formula_tree names) filter)) (maybe (option_map (formula_tree names) cost))
unfolding head_by formula_by
path_of names name chains filter cost = search (rules, the_lemmas)

pub query_found : (s : Sights) (heads : Tree (RowOf AHead)) (first : Tree ATerm) (rest : Tree (RowOf ANextTerm)) (f0 f1 f2 f3 : Option Breach)
    → f1 ≡ first_among f0 (breaches s heads) → f2 ≡ first_among f1 (breaches (behind_all s heads) first)
    → f3 ≡ first_among f2 (breaches (behind_all s heads) rest) → f3 ≡ first_among f0 (breaches s (tree.Query heads first rest))
unfolding breaches
query_found s heads first rest f0 f1 f2 f3 e1 e2 e3 =
    e3 ∙ ap (λ f. first_among f (breaches (behind_all s heads) rest)) (e2 ∙ ap (λ f. first_among f (breaches (behind_all s heads) first)) e1)

pub basic_found : (s : Sights) (token : ℕ) (items : Tree (RowOf AnItem)) (main : Tree ABlock) (optionals : Tree (RowOf AnOptional)) (f0 f1 f2 f3 : Option Breach)
    → f1 ≡ first_among f0 (both (match_breaches s.uses main optionals) (construct_breaches (graphs_in s) s.uses items main optionals))
    → f2 ≡ first_among f1 (breaches s main) → f3 ≡ first_among f2 (breaches s optionals)
    → f3 ≡ first_among f0 (breaches s (tree.Basic token items main optionals))
unfolding breaches
basic_found s token items main optionals f0 f1 f2 f3 e1 e2 e3 =
    e3 ∙ ap (λ f. first_among f (breaches s optionals)) (e2 ∙ ap (λ f. first_among f (breaches s main)) e1)

pub block_found : (s : Sights) (patterns : Tree (RowOf ALocated)) (filter : Tree (RowOf AFormula)) (f0 f1 f2 : Option Breach)
    → f1 ≡ first_among f0 (patterns_breaches (graphs_in s) s.views patterns)
    → f2 ≡ first_among f1 (breaches (record s { uses = seen_in s patterns }) filter)
    → f2 ≡ first_among f0 (breaches s (tree.Block patterns filter))
unfolding breaches
block_found s patterns filter f0 f1 f2 e1 e2 = e2 ∙ ap (λ f. first_among f (breaches (record s { uses = seen_in s patterns }) filter)) e1
