-- Where a row of trees is built, each tree is, and where a query is, its heads, its first term and those behind it are.
use Rattle.std.proofs.Common.{◌≡◌, ℕ, ◌+◌, List, map, drop, Some, ap, ◌∙◌, subst, slice_get}
use Rattle.gc_ast.specs.declared.query.NextTerm.{NextTerm, out-NextTerm}
use Rattle.gc_ast.specs.declared.query.Query.{Query, out-Query}
use Rattle.gc_ast.specs.QueryViews.{head_tree, next_term_tree, query_tree, term_tree}
use Rattle.gc_ast.specs.Trees.{Kind, Tree, ANextTerm, row}
use Rattle.gc_ast.specs.Trees as tree
use Rattle.gc_expr.specs.Views.{Names}
use Rattle.gc_lower.specs.Scopes.{Scope}
use Rattle.gc_query.specs.Built.{IsBuilt}
use Rattle.gc_query.proofs.AllOf.{drop_at}
use Rattle.gc_query.proofs.BuiltParts.{of_query}
use Rattle.gc_query.proofs.QueryParts.{next_parts}

module _ (s : Scope) {k : Kind} {X : Type 0} (tree_of : X → Tree k) where
  abbrev pub RowBuilt : List X → Type 0
  RowBuilt xs = IsBuilt s (row (map tree_of xs))

  one_more : (xs : List X) (i : ℕ) (x : X) → slice_get xs i ≡ Some x → RowBuilt (drop i xs) → IsBuilt s (tree_of x) × RowBuilt (drop (i + 1) xs)
  unfolding IsBuilt
  one_more xs i x at h = subst RowBuilt (drop_at xs i x at) h

  -- where all that is left is built, what is next is, and what is behind it is
  pub next_is : (xs : List X) (i : ℕ) (x : X) → slice_get xs i ≡ Some x → RowBuilt (drop i xs) → IsBuilt s (tree_of x)
  next_is xs i x at h = (one_more xs i x at h).0

  pub later_are : (xs : List X) (i : ℕ) (x : X) → slice_get xs i ≡ Some x → RowBuilt (drop i xs) → RowBuilt (drop (i + 1) xs)
  later_are xs i x at h = (one_more xs i x at h).1

module _ (s : Scope) (names : Names) where
  -- the row of what is left, by the term that is next
  pub next_row : (rest : List NextTerm) (i : ℕ) (x : NextTerm) → slice_get rest i ≡ Some x
      → row (map (next_term_tree names) (drop i rest)) ≡ tree.more (tree.NextTerm (out-NextTerm x).op (term_tree names (out-NextTerm x).term)) (row (map (next_term_tree names) (drop (i + 1) rest)))
  next_row rest i x at =
      ap (λ xs. row (map (next_term_tree names) xs)) (drop_at rest i x at)
      ∙ ap (λ (t : Tree ANextTerm). tree.more t (row (map (next_term_tree names) (drop (i + 1) rest)))) (next_parts names x)

  -- where a query is built, its heads and its terms are
  pub heads_are : (q : Query) → IsBuilt s (query_tree names q) → RowBuilt s (head_tree names) (out-Query q).heads.items
  heads_are q h = (of_query s names q h).0

  pub first_is : (q : Query) → IsBuilt s (query_tree names q) → IsBuilt s (term_tree names (out-Query q).first)
  first_is q h = (of_query s names q h).1

  pub rest_is : (q : Query) → IsBuilt s (query_tree names q) → RowBuilt s (next_term_tree names) (out-Query q).rest.items
  rest_is q h = (of_query s names q h).2
