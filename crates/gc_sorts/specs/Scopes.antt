-- What is in scope at a place of a query file: the graphs that are known there, and the views.
use Rattle.std.specs.Prelude.{ℕ, ◌+◌, List, [], ◌∷◌, ◌++◌, Option, Some, None, length, slice_get}
use Rattle.std.specs.Option.{option_or, option_map}
use Rattle.gc_ast.specs.Trees as tree
use Rattle.gc_ast.specs.Trees.{Tree}
use Rattle.gc_sorts.specs.Orders.{first_place}

-- the names of the graphs of the session, and of those that statements before and queries around declare;
-- the names of the views, and the number of each among the PATH heads of the file, from 0; how many PATH
-- heads stand before
pub record Scope : Type 0 where
  pub loaded : List (List ℕ)
  pub declared : List (List ℕ)
  pub views : List (List ℕ)
  pub numbers : List ℕ
  pub heads : ℕ

-- the scope at the begin of a file over graphs of these names
abbrev pub outside : List (List ℕ) → Scope
outside graphs = record { loaded = graphs; declared = []; views = []; numbers = []; heads = 0 }

-- a scope with one more graph, and with one more view
abbrev pub with_graph : Scope → List ℕ → Scope
with_graph s name = record s { declared = s.declared ++ name ∷ [] }

abbrev pub with_view : Scope → List ℕ → Scope
with_view s name = record s { views = s.views ++ name ∷ []; numbers = s.numbers ++ s.heads ∷ []; heads = s.heads + 1 }

-- the scope behind a tree: a graph and a view are known behind their declaration, and no longer behind
-- the query that declares them at its head
unfoldable pub behind : {k : tree.Kind} → Scope → Tree k → Scope
behind s (tree.View g query) = with_graph (behind s query) g.name
behind s (tree.Ask query) = behind s query
behind s (tree.Query heads first rest) = record s { heads = (behind (behind (behind s heads) first) rest).heads }
behind s (tree.NextTerm op term) = behind s term
behind s (tree.BasicTerm basic) = behind s basic
behind s (tree.QueryTerm query) = behind s query
behind s (tree.PathHead v chains filter cost) = with_view s v.name
behind s (tree.GraphHead g query) = with_graph (behind s query) g.name
behind s (tree.Basic token items main optionals) = behind (behind s main) optionals
behind s (tree.Block patterns filter) = behind s filter
behind s (tree.Optional token block) = behind s block
behind s (tree.Formula e queries) = behind s queries
behind s tree.none = s
behind s (tree.more t ts) = behind (behind s t) ts
behind s other = s

-- the number of a graph's name, where it is known: those of the session come first
abbrev pub graph_number : Scope → List ℕ → Option ℕ
graph_number s name =
    option_or (first_place s.loaded name) (option_map (λ place. place + length s.loaded) (first_place s.declared name))

-- the number of a view's name, where it is in scope
abbrev pub number_at : List ℕ → Option ℕ → Option ℕ
number_at numbers None = None
number_at numbers (Some place) = slice_get numbers place

abbrev pub view_number : Scope → List ℕ → Option ℕ
view_number s name = number_at s.numbers (first_place s.views name)
