-- What the patterns of a block break by themselves, and against the graphs and views in scope.
use Rattle.std.specs.Prelude.{ℕ, List, Bool, true, false, not, ◌||◌}
use Rattle.gc_ast.specs.Trees as tree
use Rattle.gc_ast.specs.Trees.{Tree, TreeOf, Named, RowOf, ABlock, ALocated, APattern, APathBody}
use Rattle.gc_sorts.specs.declared.breach.SortRule.TheVariants.{ViewNeedsEdge}
use Rattle.gc_sorts.specs.Breaches.{Breaches, none, both, broken_if}
use Rattle.gc_sorts.specs.Graphs.{unknown_graph_if, unknown_views}
use Rattle.gc_sorts.specs.Sizes.{too_many_states, out_of_range, too_many, located_tokens, pattern_tokens}
use Rattle.gc_sorts.specs.Uses.{all_of}

-- what each tree of a row breaks
abbrev pub each : {N : Type 0} {k : tree.Kind} → (TreeOf N k → Breaches) → TreeOf N (RowOf k) → Breaches
each f tree.none = none
each f (tree.more t ts) = both (f t) (each f ts)

-- a path: the number before SHORTEST, the views of its expression, its size
abbrev pub path_breaches : List (List ℕ) → ℕ → Tree APathBody → Breaches
path_breaches views regex_at (tree.Reach r vs) = both (unknown_views views vs) (too_many_states r regex_at)
path_breaches views regex_at (tree.Found k p r vs c) =
    both (out_of_range k) (both (unknown_views views vs) (too_many_states r regex_at))
path_breaches views regex_at (tree.All p r vs) = both (unknown_views views vs) (too_many_states r regex_at)
path_breaches views regex_at (tree.Stored p labels) = none

abbrev pub pattern_breaches : List (List ℕ) → Tree APattern → Breaches
pattern_breaches views (tree.Node element) = none
pattern_breaches views (tree.Edge way element) = none
pattern_breaches views (tree.Path token regex_at body) = path_breaches views regex_at body

-- a chain and the graph that it stands on
abbrev pub located_breaches : (graphs views : List (List ℕ)) → Tree ALocated → Breaches
located_breaches graphs views (tree.Located parts on) = both (each (pattern_breaches views) parts) (unknown_graph_if graphs on)

-- the patterns of a block
abbrev pub patterns_breaches : (graphs views : List (List ℕ)) → Tree (RowOf ALocated) → Breaches
patterns_breaches graphs views patterns =
    both (each (located_breaches graphs views) patterns) (too_many (all_of located_tokens patterns))

-- whether a part of a chain is an edge
abbrev pub is_edge : Tree APattern → Bool
is_edge (tree.Edge way element) = true
is_edge pattern = false

abbrev pub has_edge : Tree (RowOf APattern) → Bool
has_edge tree.none = false
has_edge (tree.more part parts) = is_edge part || has_edge parts

-- whether the first chain of a view has an edge
abbrev pub begins_with_edge : Tree (RowOf (RowOf APattern)) → Bool
begins_with_edge tree.none = false
begins_with_edge (tree.more chain chains) = has_edge chain

-- the chains of a view, whose name breaks the rule where the first one has no edge
abbrev pub chains_breaches : List (List ℕ) → Named → Tree (RowOf (RowOf APattern)) → Breaches
chains_breaches views v chains =
    both (broken_if (not (begins_with_edge chains)) ViewNeedsEdge v.token)
    (both (each (each (pattern_breaches views)) chains) (too_many (all_of (all_of pattern_tokens) chains)))
