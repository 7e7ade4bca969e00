-- The places of a query file at which the name of a graph or a view or an unnamed element stands, each with
-- its token and what is in scope there, in text order.
use Rattle.std.specs.Prelude.{ℕ, List, [], ◌∷◌, Option, Some, None}
use Rattle.gc_ast.specs.Trees as tree
use Rattle.gc_ast.specs.Trees.{Tree, Named, RowOf, AStatement, ALocated, APattern, AnElement, APathBody, AnItem, AConstructPart, ANewElement}
use Rattle.gc_sorts.specs.Scopes.{Scope, outside, behind}

-- a graph's name in ON, as a term or as an item; a view's name behind `~`; an unnamed node or edge of a
-- MATCH or a CONSTRUCT
pub data Occurrence : Type 0 where
  GraphName : (token : ℕ) → (name : List ℕ) → Scope → Occurrence
  ViewName : (token : ℕ) → (name : List ℕ) → Scope → Occurrence
  Unnamed : (token : ℕ) → Occurrence

-- occurrences in text order: none, one, or those of two parts
pub data Occurrences : Type 0 where
  none : Occurrences
  one : Occurrence → Occurrences
  both : Occurrences → Occurrences → Occurrences

-- those of each tree of a row, all in one scope
abbrev pub each : {k : tree.Kind} → (Tree k → Occurrences) → Tree (RowOf k) → Occurrences
each f tree.none = none
each f (tree.more t ts) = both (f t) (each f ts)

abbrev pub graph_name : Scope → Named → Occurrences
graph_name s g = one (GraphName g.token g.name s)

abbrev pub graph_name_if : Scope → Option Named → Occurrences
graph_name_if s None = none
graph_name_if s (Some g) = graph_name s g

abbrev pub view_names : Scope → List Named → Occurrences
view_names s [] = none
view_names s (v ∷ vs) = both (one (ViewName v.token v.name s)) (view_names s vs)

-- an element of this token, unless it has a name
abbrev pub unnamed : ℕ → Option Named → Occurrences
unnamed token None = one (Unnamed token)
unnamed token (Some name) = none

-- those of the patterns of a MATCH
abbrev pub in_element : Tree AnElement → Occurrences
in_element (tree.Element token name labels properties) = unnamed token name

abbrev pub in_body : Scope → Tree APathBody → Occurrences
in_body s (tree.Reach regex views) = view_names s views
in_body s (tree.Found k path regex views cost) = view_names s views
in_body s (tree.All path regex views) = view_names s views
in_body s (tree.Stored path labels) = none

abbrev pub in_pattern : Scope → Tree APattern → Occurrences
in_pattern s (tree.Node element) = in_element element
in_pattern s (tree.Edge way element) = in_element element
in_pattern s (tree.Path token regex_at body) = in_body s body

abbrev pub in_located : Scope → Tree ALocated → Occurrences
in_located s (tree.Located parts on) = both (each (in_pattern s) parts) (graph_name_if s on)

-- those of the items of a CONSTRUCT
abbrev pub in_new : Tree ANewElement → Occurrences
in_new (tree.NewElement token name copy group labels assigns) = unnamed token name

abbrev pub in_part : Tree AConstructPart → Occurrences
in_part (tree.NewNode element) = in_new element
in_part (tree.NewEdge way element) = in_new element
in_part (tree.Projected token path) = none
in_part (tree.NewStored token path labels assigns) = none

abbrev pub in_item : Scope → Tree AnItem → Occurrences
in_item s (tree.GraphItem g) = graph_name s g
in_item s (tree.ChainItem parts changes condition) = each in_part parts

-- those of a tree in a scope; a query stands in no expression but the WHERE of a block
unfoldable pub occurrences : {k : tree.Kind} → Scope → Tree k → Occurrences
occurrences s (tree.View g query) = occurrences s query
occurrences s (tree.Ask query) = occurrences s query
occurrences s (tree.Query heads first rest) =
    both (occurrences s heads) (both (occurrences (behind s heads) first) (occurrences (behind (behind s heads) first) rest))
occurrences s (tree.NextTerm op term) = occurrences s term
occurrences s (tree.BasicTerm basic) = occurrences s basic
occurrences s (tree.GraphTerm g) = graph_name s g
occurrences s (tree.QueryTerm query) = occurrences s query
occurrences s (tree.PathHead v chains filter cost) = each (each (in_pattern s)) chains
occurrences s (tree.GraphHead g query) = occurrences s query
occurrences s (tree.Basic token items main optionals) =
    both (each (in_item s) items) (both (occurrences s main) (occurrences (behind s main) optionals))
occurrences s (tree.Block patterns filter) = both (each (in_located s) patterns) (occurrences s filter)
occurrences s (tree.Optional token block) = occurrences s block
occurrences s (tree.Formula e queries) = occurrences s queries
occurrences s tree.none = none
occurrences s (tree.more t ts) = both (occurrences s t) (occurrences (behind s t) ts)
occurrences s other = none

-- those of the statements of a file over graphs of these names
abbrev pub file_occurrences : List (List ℕ) → Tree (RowOf AStatement) → Occurrences
file_occurrences graphs statements = occurrences (outside graphs) statements
