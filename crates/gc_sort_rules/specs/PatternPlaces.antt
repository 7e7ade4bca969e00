-- The places in the patterns of a MATCH, an OPTIONAL and a PATH.
use Rattle.std.specs.Prelude.{ℕ, ◌+◌, List, [], ◌∷◌, ◌++◌, map, Option, Some, None}
use Rattle.gc_ast.specs.declared.pattern.CountAt.{CountAt}
use Rattle.gc_ast.specs.Trees as tree
use Rattle.gc_ast.specs.Trees.{Tree, Named, RowOf, ABlock, AnOptional, ALocated, APattern, APathBody}
use Rattle.gc_sorts.specs.Sizes.{located_tokens, optional_tokens}
use Rattle.gc_sorts.specs.Uses.{all_of, block_uses, optional_uses}
use Rattle.gc_sorts.specs.Variables.{Use}
use Rattle.gc_sort_rules.specs.Places.{Scope, Place, Occurrence, At, GraphName, ViewName, Count, Regex, Pattern, Optional, Binding}

-- a place at the token of each of some things, by how many of them stand before
abbrev pub numbered : Scope → (ℕ → Place) → (before : ℕ) → (tokens : List ℕ) → List Occurrence
numbered s place before [] = []
numbered s place before (token ∷ tokens) = At token (place before) s ∷ numbered s place (before + 1) tokens

-- the name of a graph, which may be absent, and those of views
abbrev pub graph_name : Scope → Named → Occurrence
graph_name s g = At g.token (GraphName g.name) s

abbrev pub graph_name_if : Scope → Option Named → List Occurrence
graph_name_if s None = []
graph_name_if s (Some g) = graph_name s g ∷ []

abbrev pub view_names : Scope → List Named → List Occurrence
view_names s [] = []
view_names s (v ∷ vs) = At v.token (ViewName v.name) s ∷ view_names s vs

-- the number before SHORTEST
abbrev pub count_if : Scope → Option CountAt → List Occurrence
count_if s None = []
count_if s (Some k) = At k.token (Count k.count) s ∷ []

-- a path, whose expression begins at a token
abbrev pub in_path : Scope → (regex_at : ℕ) → Tree APathBody → List Occurrence
in_path s regex_at (tree.Reach regex views) = At regex_at (Regex regex) s ∷ view_names s views
in_path s regex_at (tree.Found k path regex views cost) = count_if s k ++ At regex_at (Regex regex) s ∷ view_names s views
in_path s regex_at (tree.All path regex views) = At regex_at (Regex regex) s ∷ view_names s views
in_path s regex_at (tree.Stored path labels) = []

abbrev pub in_pattern : Scope → Tree APattern → List Occurrence
in_pattern s (tree.Node element) = []
in_pattern s (tree.Edge way element) = []
in_pattern s (tree.Path token regex_at body) = in_path s regex_at body

-- a chain with the graph that it stands on
abbrev pub in_located : Scope → Tree ALocated → List Occurrence
in_located s (tree.Located parts on) = all_of (in_pattern s) parts ++ graph_name_if s on

-- the patterns of a block, but for their variables
abbrev pub in_patterns : Scope → Tree (RowOf ALocated) → List Occurrence
in_patterns s patterns = all_of (in_located s) patterns ++ numbered s Pattern 0 (all_of located_tokens patterns)

-- the variables of patterns, at each of their places
abbrev pub binding : Scope → (mandatory earlier : List Use) → Use → Occurrence
binding s mandatory earlier u = At u.token (Binding u.name u.role mandatory earlier) s

abbrev pub bindings : Scope → (mandatory earlier : List Use) → List Use → List Occurrence
bindings s mandatory earlier uses = map (binding s mandatory earlier) uses

-- those of OPTIONAL blocks in turn
abbrev pub optional_bindings : Scope → (mandatory earlier : List Use) → Tree (RowOf AnOptional) → List Occurrence
optional_bindings s mandatory earlier tree.none = []
optional_bindings s mandatory earlier (tree.more o os) =
    bindings s mandatory earlier (optional_uses o) ++ optional_bindings s mandatory (earlier ++ optional_uses o) os

-- the variables of a MATCH and of its OPTIONAL blocks, and these blocks; what is in scope has the places of all of them
abbrev pub in_match : Scope → (seen : List Use) → Tree ABlock → Tree (RowOf AnOptional) → List Occurrence
in_match s seen main optionals =
    bindings s (seen ++ block_uses main) [] (block_uses main)
    ++ (optional_bindings s (seen ++ block_uses main) [] optionals ++ numbered s Optional 0 (optional_tokens optionals))
