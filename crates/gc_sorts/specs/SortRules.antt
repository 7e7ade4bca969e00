-- The sort rules of a query file: what its statements break, and which breach is the first.
use Rattle.std.specs.Prelude.{ℕ, List, [], ◌∷◌, ◌++◌, Bool, true, false, ◌&&◌, Option, None, length}
use Rattle.gc_ast.specs.Trees as tree
use Rattle.gc_ast.specs.Trees.{Tree, Kind, RowOf, AStatement, AQuery, ATerm, ANextTerm, AHead, AFormula, ABasic, ABlock, AnOptional, ALocated, APattern, AnItem, AConstructPart, ANewElement}
use Rattle.gc_sorts.specs.declared.form.Takes.TheVariants as takes
use Rattle.gc_sorts.specs.declared.breach.Breach.{Breach}
use Rattle.gc_sorts.specs.Breaches.{Breaches, none, both, first_among}
use Rattle.gc_sorts.specs.Constructs.{Made, making, nothing_made, with_items, item_breaches, formula_breaches}
use Rattle.gc_sorts.specs.Expressions.{Standing, expression_breaches}
use Rattle.gc_sorts.specs.Graphs.{unknown_graph, taken}
use Rattle.gc_sorts.specs.Links.{Link, block_links, optional_links, loose_item}
use Rattle.gc_sorts.specs.Matches.{place_breaches, each_use, shared_breaches}
use Rattle.gc_sorts.specs.Patterns.{each, patterns_breaches, chains_breaches}
use Rattle.gc_sorts.specs.Sizes.{too_many, optional_tokens}
use Rattle.gc_sorts.specs.Uses.{all_of, block_uses, optional_uses, located_uses, pattern_uses}
use Rattle.gc_sorts.specs.Variables.{Use}

-- what is in scope: the graphs of the session and those that the file has declared, the views, and the
-- variables that an EXISTS sees
pub record Sights : Type 0 where
  pub loaded : List (List ℕ)
  pub declared : List (List ℕ)
  pub views : List (List ℕ)
  pub uses : List Use

-- the graphs that are known
abbrev pub graphs_in : Sights → List (List ℕ)
graphs_in s = s.loaded ++ s.declared

-- what is in scope behind a tree: a head and a statement may declare a graph or a view
abbrev pub behind : {k : Kind} → Sights → Tree k → Sights
behind s (tree.View g query) = record s { declared = s.declared ++ g.name ∷ [] }
behind s (tree.GraphHead g query) = record s { declared = s.declared ++ g.name ∷ [] }
behind s (tree.PathHead v chains filter cost) = record s { views = s.views ++ v.name ∷ [] }
behind s tree = s

-- what is in scope behind all trees of a row
abbrev pub behind_all : {k : Kind} → Sights → Tree (RowOf k) → Sights
behind_all s tree.none = s
behind_all s (tree.more t ts) = behind_all (behind s t) ts

-- whether a row has no tree, a list no item, and what may be absent is
abbrev pub is_none : {k : Kind} → Tree (RowOf k) → Bool
is_none tree.none = true
is_none ts = false

abbrev pub is_empty : {A : Type 0} → List A → Bool
is_empty [] = true
is_empty xs = false

abbrev pub is_absent : {A : Type 0} → Option A → Bool
is_absent None = true
is_absent o = false

-- `CONSTRUCT ()`: one item of one node, with nothing in it and nothing behind
abbrev pub is_bare_element : Tree ANewElement → Bool
is_bare_element (tree.NewElement token name copy group labels assigns) =
    is_absent name && (is_absent copy && (is_none group && (is_empty labels && is_none assigns)))

abbrev pub is_bare_part : Tree AConstructPart → Bool
is_bare_part (tree.NewNode element) = is_bare_element element
is_bare_part part = false

-- whether a row has one tree, which passes a test
abbrev pub is_only : {k : Kind} → (Tree k → Bool) → Tree (RowOf k) → Bool
is_only test (tree.more t tree.none) = test t
is_only test ts = false

abbrev pub is_bare_item : Tree AnItem → Bool
is_bare_item (tree.ChainItem parts changes condition) = is_only is_bare_part parts && (is_none changes && is_none condition)
is_bare_item item = false

-- an EXISTS query: `CONSTRUCT ()` with one MATCH block, without heads and OPTIONAL
abbrev pub is_bare_basic : Tree ABasic → Bool
is_bare_basic (tree.Basic token items main optionals) = is_only is_bare_item items && is_none optionals

abbrev pub is_bare_term : Tree ATerm → Bool
is_bare_term (tree.BasicTerm basic) = is_bare_basic basic
is_bare_term term = false

abbrev pub is_existence : Tree AQuery → Bool
is_existence (tree.Query heads first rest) = is_none heads && (is_none rest && is_bare_term first)

abbrev pub are_existence : Tree (RowOf AQuery) → List Bool
are_existence tree.none = []
are_existence (tree.more query queries) = is_existence query ∷ are_existence queries

-- where the WHERE of a block stands, whose places and those that it sees are given
abbrev pub where_ : List Use → Tree (RowOf AQuery) → Standing
where_ uses queries = record { uses = uses; stored = []; exists = are_existence queries }

-- where the WHERE and the COST of a view stand
abbrev pub in_view : List Use → Standing
in_view uses = record { uses = uses; stored = []; exists = [] }

-- the places in the chains of a view, behind those that are seen
abbrev pub view_uses : Sights → Tree (RowOf (RowOf APattern)) → List Use
view_uses s chains = s.uses ++ all_of (all_of pattern_uses) chains

-- what a head that declares a view breaks
abbrev pub view_breaches : Sights → tree.Named → Tree (RowOf (RowOf APattern)) → Tree (RowOf AFormula) → Tree (RowOf AFormula) → Breaches
view_breaches s v chains filter cost =
    both (taken s.views v)
    (both (chains_breaches s.views v chains)
    (both (each_use (place_breaches (view_uses s chains)) (all_of (all_of pattern_uses) chains))
    (both (each (formula_breaches (in_view (view_uses s chains)) false takes.Condition) filter)
    (each (formula_breaches (in_view (view_uses s chains)) false takes.Value) cost))))

-- the places of a MATCH and its OPTIONAL blocks, behind those that it sees
abbrev pub match_uses : List Use → Tree ABlock → Tree (RowOf AnOptional) → List Use
match_uses seen main optionals = (seen ++ block_uses main) ++ all_of optional_uses optionals

-- the links of the block of each variable's first place
abbrev pub match_links : List Use → Tree ABlock → Tree (RowOf AnOptional) → List Link
match_links seen main optionals = block_links seen main ++ optional_links (seen ++ block_uses main) optionals

-- what a CONSTRUCT names
abbrev pub made_by : Tree (RowOf AnItem) → Made
made_by items = with_items nothing_made items

-- what items break beside the places and the links of the MATCH
abbrev pub items_breaches : (graphs : List (List ℕ)) → List Use → List Link → Tree (RowOf AnItem) → Breaches
items_breaches graphs uses links items =
    both (each (item_breaches graphs (making uses (made_by items))) items) (each (loose_item uses links) items)

-- what the items of a CONSTRUCT break
abbrev pub construct_breaches : (graphs : List (List ℕ)) → (seen : List Use) → Tree (RowOf AnItem) → Tree ABlock → Tree (RowOf AnOptional) → Breaches
construct_breaches graphs seen items main optionals =
    items_breaches graphs (match_uses seen main optionals) (match_links seen main optionals) items

-- what the places of a MATCH and its OPTIONAL blocks break
abbrev pub match_breaches : (seen : List Use) → Tree ABlock → Tree (RowOf AnOptional) → Breaches
match_breaches seen main optionals =
    both (shared_breaches (length (seen ++ block_uses main)) (seen ++ block_uses main) optionals)
    (both (each_use (place_breaches (match_uses seen main optionals)) (block_uses main ++ all_of optional_uses optionals))
    (too_many (optional_tokens optionals)))

-- the places that the WHERE of a block sees
abbrev pub seen_in : Sights → Tree (RowOf ALocated) → List Use
seen_in s patterns = s.uses ++ all_of located_uses patterns

-- what a tree breaks with what is in scope
unfoldable pub breaches : {k : Kind} → Sights → Tree k → Breaches
breaches s (tree.View g query) = both (taken (graphs_in s) g) (breaches s query)
breaches s (tree.Ask query) = breaches s query
breaches s (tree.Query heads first rest) =
    both (breaches s heads) (both (breaches (behind_all s heads) first) (breaches (behind_all s heads) rest))
breaches s (tree.NextTerm op term) = breaches s term
breaches s (tree.BasicTerm basic) = breaches s basic
breaches s (tree.GraphTerm g) = unknown_graph (graphs_in s) g
breaches s (tree.QueryTerm query) = breaches s query
breaches s (tree.PathHead v chains filter cost) = view_breaches s v chains filter cost
breaches s (tree.GraphHead g query) = both (taken (graphs_in s) g) (breaches s query)
breaches s (tree.Basic token items main optionals) =
    both (match_breaches s.uses main optionals)
    (both (construct_breaches (graphs_in s) s.uses items main optionals)
    (both (breaches s main) (breaches s optionals)))
breaches s (tree.Block patterns filter) =
    both (patterns_breaches (graphs_in s) s.views patterns) (breaches (record s { uses = seen_in s patterns }) filter)
breaches s (tree.Optional token block) = breaches s block
breaches s (tree.Formula e queries) =
    both (expression_breaches (where_ s.uses queries) false takes.Condition 0 e) (breaches s queries)
breaches s tree.none = none
breaches s (tree.more t ts) = both (breaches s t) (breaches (behind s t) ts)
breaches s tree = none

-- what the statements of a file over graphs of these names break
abbrev pub file_breaches : List (List ℕ) → Tree (RowOf AStatement) → Breaches
file_breaches graphs statements = breaches (record { loaded = graphs; declared = []; views = []; uses = [] }) statements

-- the first of their breaches
abbrev pub first_breach : List (List ℕ) → Tree (RowOf AStatement) → Option Breach
first_breach graphs statements = first_among None (file_breaches graphs statements)
