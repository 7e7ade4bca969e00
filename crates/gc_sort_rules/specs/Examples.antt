-- The smallest query files that break each rule, as trees.
use Rattle.std.specs.Prelude.{ℕ, zero, suc, ◌+◌, pos, List, [], ◌∷◌, Option, Some, None, codes}
use Rattle.gc_base.specs.declared.place.Direction.TheVariants.{Forward}
use Rattle.gc_regx.specs.Trees as regex
use Rattle.gc_expr.specs.Trees as expr
use Rattle.gc_expr.specs.Trees.{ExprTree, AnExpr}
use Rattle.gc_expr.specs.declared.expr.Comparison.TheVariants.{Equal}
use Rattle.gc_expr.specs.declared.expr.Fold.TheVariants as fold
use Rattle.gc_ast.specs.declared.pattern.CountAt.{CountAt}
use Rattle.gc_ast.specs.Trees as tree
use Rattle.gc_ast.specs.Trees.{Tree, Named, RowOf, AStatement, AQuery, ABlock, AnOptional, ALocated, APattern, APathBody, AnItem, AConstructPart, AGroupTerm, row}
use Rattle.gc_sorts.specs.declared.breach.Breach.{Breach}
use Rattle.gc_sorts.specs.declared.breach.SortRule.{SortRule}
use Rattle.gc_sorts.specs.declared.breach.SortRule.TheVariants as rule

-- a session with one graph, `g`
abbrev pub session : List (List ℕ)
session = codes "g" ∷ []

-- a name at a token; a node and an edge that begin at one, in a MATCH and in a CONSTRUCT
abbrev pub named : List ℕ → ℕ → Named
named name token = record { name = name; token = token }

abbrev pub node : ℕ → List ℕ → Tree APattern
node token name = tree.Node (tree.Element token (Some (named name (token + 1))) [] tree.none)

abbrev pub edge : ℕ → Option Named → Tree APattern
edge token name = tree.Edge Forward (tree.Element token name [] tree.none)

abbrev pub new_node : ℕ → List ℕ → Tree (RowOf AGroupTerm) → Tree AConstructPart
new_node token name group = tree.NewNode (tree.NewElement token (Some (named name (token + 1))) None group [] tree.none)

abbrev pub new_edge : ℕ → List ℕ → Tree AConstructPart
new_edge token name = tree.NewEdge Forward (tree.NewElement token (Some (named name (token + 2))) None tree.none [] tree.none)

-- a chain of a CONSTRUCT and one of a MATCH; a block of one chain without a WHERE, and with one
abbrev pub item : List (Tree AConstructPart) → Tree AnItem
item parts = tree.ChainItem (row parts) tree.none tree.none

abbrev pub chain : List (Tree APattern) → Tree ALocated
chain parts = tree.Located (row parts) None

abbrev pub block : List (Tree APattern) → Tree ABlock
block parts = tree.Block (row (chain parts ∷ [])) tree.none

abbrev pub block_where : List (Tree APattern) → ExprTree AnExpr → List (Tree AQuery) → Tree ABlock
block_where parts condition queries = tree.Block (row (chain parts ∷ [])) (row (tree.Formula condition (row queries) ∷ []))

-- a query of one CONSTRUCT, whose token has a number; one that begins with `CONSTRUCT (n)`
abbrev pub construct : ℕ → List (Tree AnItem) → Tree ABlock → List (Tree AnOptional) → Tree AQuery
construct token items main optionals = tree.Query tree.none (tree.BasicTerm (tree.Basic token (row items) main (row optionals))) tree.none

abbrev pub asked : Tree AQuery → Tree (RowOf AStatement)
asked query = row (tree.Ask query ∷ [])

abbrev pub n : List ℕ
n = codes "n"

abbrev pub construct_n : Tree ABlock → Tree (RowOf AStatement)
construct_n main = asked (construct 0 (item (new_node 1 n tree.none ∷ []) ∷ []) main [])

-- `(n)`, and a path pattern behind it, which ends at `(m)` with a token of a number
abbrev pub along : Tree APattern → ℕ → List (Tree APattern)
along path last = node 5 n ∷ path ∷ node last (codes "m") ∷ []

-- the value of a property and a comparison with 1, from the number of the first token; that of the last is given too
abbrev pub value : List ℕ → ℕ → ExprTree AnExpr
value name token = expr.At token (expr.Property (expr.At token (expr.Var name)) (codes "a"))

abbrev pub is_one : ExprTree AnExpr → (token last : ℕ) → ExprTree AnExpr
is_one e token last = expr.At token (expr.Compare Equal e (expr.At last (expr.Number (pos 1))))

-- `CONSTRUCT (n) MATCH (n) ON h`
abbrev pub unknown_graph : Tree (RowOf AStatement)
unknown_graph = construct_n (tree.Block (row (tree.Located (row (node 5 n ∷ [])) (Some (named (codes "h") 9)) ∷ [])) tree.none)

-- `CONSTRUCT (n) MATCH (n)-/<~w>/->(m)`
abbrev pub unknown_view : Tree (RowOf AStatement)
unknown_view = construct_n (block (along (tree.Path 8 10 (tree.Reach (regex.View (codes "w")) (named (codes "w") 12 ∷ []))) 17))

-- `CONSTRUCT (n) MATCH (n) WHERE m.a = 1`
abbrev pub unknown_name : Tree (RowOf AStatement)
unknown_name = construct_n (block_where (node 5 n ∷ []) (is_one (value (codes "m") 9) 9 13) [])

-- `CONSTRUCT (n) MATCH (n) WHERE n.a`
abbrev pub sort_clash : Tree (RowOf AStatement)
sort_clash = construct_n (block_where (node 5 n ∷ []) (value n 9) [])

-- `p<_>` whose name has a token of a number
abbrev pub found : ℕ → Tree APathBody
found token = tree.Found None (named (codes "p") token) regex.Any [] None

-- `CONSTRUCT (n) MATCH (n)-/p<_>/->(m)-/p<_>/->(n)`
abbrev pub twice_bound : Tree (RowOf AStatement)
twice_bound = construct_n (block (node 5 n ∷ tree.Path 8 11 (found 10) ∷ node 17 (codes "m") ∷ tree.Path 20 23 (found 22) ∷ node 29 n ∷ []))

-- an OPTIONAL at a token: `OPTIONAL (n)-[]->(a)`
abbrev pub optional_a : ℕ → Tree AnOptional
optional_a token = tree.Optional token (block (node (token + 1) n ∷ edge (token + 4) None ∷ node (token + 9) (codes "a") ∷ []))

-- `CONSTRUCT (n) MATCH (n) OPTIONAL (n)-[]->(a) OPTIONAL (n)-[]->(a)`
abbrev pub shared_optional : Tree (RowOf AStatement)
shared_optional =
    asked (construct 0 (item (new_node 1 n tree.none ∷ []) ∷ []) (block (node 5 n ∷ [])) (optional_a 8 ∷ optional_a 20 ∷ []))

-- `CONSTRUCT (n) MATCH (n)-/ALL p<_>/->(m) WHERE length(p) = 1`
abbrev pub all_not_projected : Tree (RowOf AStatement)
all_not_projected =
    construct_n (block_where (along (tree.Path 8 12 (tree.All (named (codes "p") 11) regex.Any [])) 18)
    (is_one (expr.At 22 (expr.Length (codes "p"))) 22 27) [])

-- `CONSTRUCT (n)-[e]->(n) MATCH (n)-[e]->(m)`
abbrev pub loose_edge : Tree (RowOf AStatement)
loose_edge =
    asked (construct 0 (item (new_node 1 n tree.none ∷ new_edge 4 (codes "e") ∷ new_node 10 n tree.none ∷ []) ∷ [])
    (block (node 14 n ∷ edge 17 (Some (named (codes "e") 19)) ∷ node 23 (codes "m") ∷ [])) [])

-- `(x GROUP n)`, from a token of a number
abbrev pub grouped_x : ℕ → Tree AnItem
grouped_x token = item (new_node token (codes "x") (row (tree.GroupTerm (named n (token + 3)) None ∷ [])) ∷ [])

-- `CONSTRUCT (x GROUP n), (x GROUP n) MATCH (n)`
abbrev pub twice_grouped : Tree (RowOf AStatement)
twice_grouped = asked (construct 0 (grouped_x 1 ∷ grouped_x 7 ∷ []) (block (node 13 n ∷ [])) [])

-- `PATH w = (x) CONSTRUCT (n) MATCH (n)`
abbrev pub view_needs_edge : Tree (RowOf AStatement)
view_needs_edge =
    asked (tree.Query (row (tree.PathHead (named (codes "w") 1) (row (row (node 3 (codes "x") ∷ []) ∷ [])) tree.none tree.none ∷ []))
    (tree.BasicTerm (tree.Basic 6 (row (item (new_node 7 n tree.none ∷ []) ∷ [])) (block (node 11 n ∷ [])) tree.none)) tree.none)

-- `CONSTRUCT (n) MATCH (n)-/0 SHORTEST p<_>/->(m)`
abbrev pub count : CountAt
count = record { count = pos 0; token = 10 }

abbrev pub k_out_of_range : Tree (RowOf AStatement)
k_out_of_range = construct_n (block (along (tree.Path 8 13 (tree.Found (Some count) (named (codes "p") 12) regex.Any [] None)) 19))

-- `CONSTRUCT (n) MATCH (n) WHERE COUNT(*) = 1`
abbrev pub aggregate_here : Tree (RowOf AStatement)
aggregate_here = construct_n (block_where (node 5 n ∷ []) (is_one (expr.At 9 (expr.Aggregate fold.Rows expr.none)) 9 14) [])

-- the query that is a graph of a name at a token
abbrev pub graph : List ℕ → ℕ → Tree AQuery
graph name token = tree.Query tree.none (tree.GraphTerm (named name token)) tree.none

-- `CONSTRUCT (n) MATCH (n) WHERE EXISTS (g)`
abbrev pub exists_form : Tree (RowOf AStatement)
exists_form = construct_n (block_where (node 5 n ∷ []) (expr.At 9 (expr.Exists 0)) (graph (codes "g") 11 ∷ []))

-- `GRAPH VIEW g AS (g)`
abbrev pub name_taken : Tree (RowOf AStatement)
name_taken = row (tree.View (named (codes "g") 2) (graph (codes "g") 5) ∷ [])

-- `(n), (n), ..`, so many times, from a token of a number
abbrev pub many_n : ℕ → ℕ → List (Tree ALocated)
many_n zero token = []
many_n (suc count) token = chain (node token n ∷ []) ∷ many_n count (token + 4)

-- `CONSTRUCT (n) MATCH (n), (n), ..` with 101 times `(n)`
abbrev pub too_large : Tree (RowOf AStatement)
too_large = construct_n (tree.Block (row (many_n 101 5)) tree.none)

-- `CONSTRUCT (n) MATCH (n)`
abbrev pub no_breach : Tree (RowOf AStatement)
no_breach = construct_n (block (node 5 n ∷ []))

-- the smallest file that breaks a rule, and the number of the token at which it does
abbrev pub smallest : SortRule → Tree (RowOf AStatement)
smallest rule.UnknownGraph = unknown_graph
smallest rule.UnknownView = unknown_view
smallest rule.UnknownName = unknown_name
smallest rule.SortClash = sort_clash
smallest rule.TwiceBound = twice_bound
smallest rule.SharedOptional = shared_optional
smallest rule.AllNotProjected = all_not_projected
smallest rule.LooseEdge = loose_edge
smallest rule.TwiceGrouped = twice_grouped
smallest rule.ViewNeedsEdge = view_needs_edge
smallest rule.KOutOfRange = k_out_of_range
smallest rule.AggregateHere = aggregate_here
smallest rule.ExistsForm = exists_form
smallest rule.NameTaken = name_taken
smallest rule.TooLarge = too_large

abbrev pub token_in_smallest : SortRule → ℕ
token_in_smallest rule.UnknownGraph = 9
token_in_smallest rule.UnknownView = 12
token_in_smallest rule.UnknownName = 9
token_in_smallest rule.SortClash = 9
token_in_smallest rule.TwiceBound = 22
token_in_smallest rule.SharedOptional = 30
token_in_smallest rule.AllNotProjected = 24
token_in_smallest rule.LooseEdge = 5
token_in_smallest rule.TwiceGrouped = 9
token_in_smallest rule.ViewNeedsEdge = 1
token_in_smallest rule.KOutOfRange = 10
token_in_smallest rule.AggregateHere = 9
token_in_smallest rule.ExistsForm = 9
token_in_smallest rule.NameTaken = 2
token_in_smallest rule.TooLarge = 405

abbrev pub smallest_breach : SortRule → Breach
smallest_breach broken = record { rule = broken; token = token_in_smallest broken }
