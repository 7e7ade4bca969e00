-- Queries in parentheses as terms.
use Rattle.std.proofs.Common.{◌≡◌, refl, ap, ◌∙◌, List, [], ◌∷◌, map, rules}
use Rattle.gc_expr.specs.Views.{Names}
use Rattle.gc_ast.specs.declared.construct.Change.{the_lemmas}
use Rattle.gc_ast.specs.declared.query.Query.{Query, out-Query}
use Rattle.gc_ast.specs.Trees as tree
use Rattle.gc_ast.specs.Trees.{Tree, ATerm, AHead, ANextTerm, row}
use Rattle.gc_ast.specs.QueryViews.{query_by, head_by, term_by, next_term_by, query_tree, head_tree, term_tree, next_term_tree}
use Rattle.gc_grammar.specs.Queries.{as_term}
use Rattle.gc_parse.specs.TermParts.{term_of_parts}

as_term_is : (heads : List (Tree AHead)) (first : Tree ATerm) (rest : List (Tree ANextTerm))
    → as_term (tree.Query (row heads) first (row rest)) ≡ term_of_parts heads first rest
as_term_is [] first [] = refl
as_term_is [] first (next ∷ rest) = refl
as_term_is (head ∷ heads) first rest = refl

query_is : (names : Names) (query : Query)
    → query_tree names query
    ≡ tree.Query (row (map (head_tree names) (out-Query query).heads.items)) (term_tree names (out-Query query).first) (row (map (next_term_tree names) (out-Query query).rest.items))
unfolding query_by head_by term_by next_term_by
query_is names query = search (rules, the_lemmas)

pub as_term_of_query : (names : Names) (query : Query)
    → as_term (query_tree names query)
    ≡ term_of_parts (map (head_tree names) (out-Query query).heads.items) (term_tree names (out-Query query).first) (map (next_term_tree names) (out-Query query).rest.items)
as_term_of_query names query =
    ap as_term (query_is names query)
    ∙ as_term_is (map (head_tree names) (out-Query query).heads.items) (term_tree names (out-Query query).first) (map (next_term_tree names) (out-Query query).rest.items)
