-- The places of a query file of which a sort rule may speak. They come in text order, but that of a MATCH and its OPTIONAL
-- blocks the variables come first, and that the patterns of a block are numbered behind what stands in them.
use Rattle.std.specs.Prelude.{ℕ, List, [], ◌∷◌, ◌++◌}
use Rattle.gc_ast.specs.Trees as tree
use Rattle.gc_ast.specs.Trees.{Tree, Kind, Named, RowOf, AStatement, ABlock, AnOptional, AnItem, APattern, AFormula}
use Rattle.gc_sorts.specs.declared.form.Takes.TheVariants as takes
use Rattle.gc_sorts.specs.Sizes.{pattern_tokens}
use Rattle.gc_sorts.specs.SortRules.{made_by, match_uses, match_links}
use Rattle.gc_sorts.specs.Uses.{all_of, located_uses, pattern_uses}
use Rattle.gc_sorts.specs.Variables.{Use}
use Rattle.gc_sort_rules.specs.Places.{Scope, Occurrence, At, NewGraph, NewView, Pattern, Elsewhere}
use Rattle.gc_sort_rules.specs.PatternPlaces.{numbered, graph_name, in_pattern, in_patterns, bindings, in_match}
use Rattle.gc_sort_rules.specs.ExpressionPlaces.{Setting, in_expression, in_formula, queries_of}
use Rattle.gc_sort_rules.specs.ConstructPlaces.{Construct, in_item}

-- the same scope with one more graph, with one more view, and with other variables
abbrev pub with_graph : Scope → List ℕ → Scope
with_graph s name = record s { graphs = s.graphs ++ name ∷ [] }

abbrev pub with_view : Scope → List ℕ → Scope
with_view s name = record s { views = s.views ++ name ∷ [] }

abbrev pub with_variables : Scope → List Use → Scope
with_variables s variables = record s { variables = variables }

-- the scope behind a tree: a statement and a head may give a name to a graph or a view
abbrev pub behind : {k : Kind} → Scope → Tree k → Scope
behind s (tree.View g query) = with_graph s g.name
behind s (tree.GraphHead g query) = with_graph s g.name
behind s (tree.PathHead v chains filter cost) = with_view s v.name
behind s other = s

-- the scope behind all trees of a row
abbrev pub behind_all : {k : Kind} → Scope → Tree (RowOf k) → Scope
behind_all s tree.none = s
behind_all s (tree.more t ts) = behind_all (behind s t) ts

-- where the WHERE and the COST of a PATH stand
abbrev pub in_scope : Scope → Setting
in_scope s = record { scope = s; stored = []; queries = [] }

-- the places of a PATH, whose variables are in scope
abbrev pub in_view : Scope → Tree (RowOf (RowOf APattern)) → Tree (RowOf AFormula) → Tree (RowOf AFormula) → List Occurrence
in_view s chains filter cost =
    all_of (all_of (in_pattern s)) chains
    ++ (numbered s Pattern 0 (all_of (all_of pattern_tokens) chains)
    ++ (bindings s s.variables [] (all_of (all_of pattern_uses) chains)
    ++ (all_of (in_formula (in_scope s) Elsewhere takes.Condition) filter
    ++ all_of (in_formula (in_scope s) Elsewhere takes.Value) cost)))

-- what the items of a CONSTRUCT see
abbrev pub construct : Scope → Tree (RowOf AnItem) → Tree ABlock → Tree (RowOf AnOptional) → Construct
construct s items main optionals =
    record {
      scope = with_variables s (match_uses s.variables main optionals);
      names = made_by items;
      links = match_links s.variables main optionals;
    }

-- the places of a tree in a scope. An EXISTS sees the variables of the block in whose WHERE it stands, and those that this
-- block sees
unfoldable pub occurrences : {k : Kind} → Scope → Tree k → List Occurrence
occurrences s (tree.View g query) = At g.token (NewGraph g.name) s ∷ occurrences s query
occurrences s (tree.Ask query) = occurrences s query
occurrences s (tree.Query heads first rest) =
    occurrences s heads ++ (occurrences (behind_all s heads) first ++ occurrences (behind_all s heads) rest)
occurrences s (tree.NextTerm op term) = occurrences s term
occurrences s (tree.BasicTerm basic) = occurrences s basic
occurrences s (tree.GraphTerm g) = graph_name s g ∷ []
occurrences s (tree.QueryTerm query) = occurrences s query
occurrences s (tree.PathHead v chains filter cost) =
    At v.token (NewView v.name chains) s
    ∷ in_view (with_variables s (s.variables ++ all_of (all_of pattern_uses) chains)) chains filter cost
occurrences s (tree.GraphHead g query) = At g.token (NewGraph g.name) s ∷ occurrences s query
occurrences s (tree.Basic token items main optionals) =
    all_of (in_item (construct s items main optionals)) items
    ++ (in_match (with_variables s (match_uses s.variables main optionals)) s.variables main optionals
    ++ (occurrences s main ++ occurrences s optionals))
occurrences s (tree.Block patterns filter) =
    in_patterns s patterns ++ occurrences (with_variables s (s.variables ++ all_of located_uses patterns)) filter
occurrences s (tree.Optional token block) = occurrences s block
occurrences s (tree.Formula e queries) =
    in_expression (record { scope = s; stored = []; queries = queries_of queries }) Elsewhere takes.Condition 0 e ++ occurrences s queries
occurrences s tree.none = []
occurrences s (tree.more t ts) = occurrences s t ++ occurrences (behind s t) ts
occurrences s other = []

-- the places of the statements of a file over graphs of these names
abbrev pub file_occurrences : List (List ℕ) → Tree (RowOf AStatement) → List Occurrence
file_occurrences graphs statements = occurrences (record { graphs = graphs; views = []; variables = [] }) statements
