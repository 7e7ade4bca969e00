-- The segments of the views that a MATCH uses, or the first cost among them that is bad.
use Rattle.std.specs.Prelude.{◌≡◌, ℕ, Bool, true, false, ◌&&◌, List, [], ◌∷◌, Result, Ok, Err}
use Rattle.gc_ast.specs.Trees as ast
use Rattle.gc_ast.specs.Trees.{Tree, ABlock, AFormula, APattern, Named, PathHead, GraphHead}
use Rattle.gc_alg.specs.Tables.{IsTableOfBlock}
use Rattle.gc_alg.specs.Trees as alg
use Rattle.gc_automata.specs.Moves.{Segment}
use Rattle.gc_exec.specs.Runs.{setting}
use Rattle.gc_lower.specs.Blocks.{view_block}
use Rattle.gc_lower.specs.Scopes.{Scope}
use Rattle.gc_prod.specs.Segments.{Segments}
use Rattle.gc_rows.specs.Tables.{Relation}
use Rattle.gc_views.specs.Segments.{AreSegmentsOf, IsFirstBad, View}
use Rattle.gc_views.specs.Views.{head_view}
use Rattle.gc_query.specs.Outcomes.{Then}
use Rattle.gc_spec.specs.PropertyGraph.{PropertyGraph}
use Rattle.gc_query.specs.UsedViews.{UsedView, each_use_once, in_turn, uses_in}
use Rattle.gc_query.specs.declared.fault.Fault.{Fault}
use Rattle.gc_query.specs.declared.fault.Fault.TheVariants.{BadCost}

-- what a PATH head says behind its name
pub record Declared : Type 0 where
  pub name : Named
  pub chains : Tree (ast.RowOf (ast.RowOf APattern))
  pub filter : Tree (ast.RowOf AFormula)
  pub cost : Tree (ast.RowOf AFormula)

-- the same names, where chains without ON stand on the graph of another number
abbrev pub on_graph : Scope → (graph : ℕ) → Scope
on_graph s graph = record s { on = graph }

-- the block of a view on a graph, and the view as it is read there
abbrev pub block_on : Scope → (graph : ℕ) → Declared → alg.Tree alg.ABlock
block_on s graph d = view_block (on_graph s graph) d.chains d.filter

abbrev pub view_on : Scope → List PropertyGraph → (graph : ℕ) → Declared → View
view_on s graphs graph d = head_view (on_graph s graph) d.name d.chains d.cost (alg.reads_of (block_on s graph d)) graphs

-- what the rows of its table come to: the segments, or a fault at its name with the walk of the first row whose cost is bad
abbrev pub OfRows : View → (token : ℕ) → Relation → Result (List Segment) Fault → Type 0
OfRows v token table (Ok segments) = AreSegmentsOf v table.rows segments
OfRows v token table (Err (BadCost at walk)) = (at ≡ token) × IsFirstBad v table.rows walk
OfRows v token table (Err fault) = ⊥

-- the segments of a view on a graph, by the table of its block
pub record IsOfView (s : Scope) (graphs : List PropertyGraph) (graph : ℕ) (d : Declared) (outcome : Result (List Segment) Fault) : Type 0 where
  pub table : Relation
  pub matched : IsTableOfBlock (setting graphs [] (block_on s graph d) []) table
  pub rows : OfRows (view_on s graphs graph d) d.name.token table outcome

-- whether a pattern is a node or an edge
abbrev pub is_plain : Tree APattern → Bool
is_plain (ast.Node e) = true
is_plain (ast.Edge way e) = true
is_plain (ast.Path token regex_at body) = false

abbrev pub are_plain : Tree (ast.RowOf APattern) → Bool
are_plain ast.none = true
are_plain (ast.more p ps) = is_plain p && are_plain ps

abbrev pub are_plain_chains : Tree (ast.RowOf (ast.RowOf APattern)) → Bool
are_plain_chains ast.none = true
are_plain_chains (ast.more chain chains) = are_plain chain && are_plain_chains chains

-- whether an expression, if there is one, has no EXISTS
abbrev pub has_no_query : Tree (ast.RowOf AFormula) → Bool
has_no_query ast.none = true
has_no_query (ast.more (ast.Formula e ast.none) others) = true
has_no_query (ast.more (ast.Formula e (ast.more query queries)) others) = false

-- a view of nodes and edges without EXISTS. The grammar and the sort rules let no file have another one; it would have no segments
abbrev pub is_view : Declared → Bool
is_view d = are_plain_chains d.chains && has_no_query d.filter

abbrev pub OfView : Bool → Scope → List PropertyGraph → (graph : ℕ) → Declared → Result (List Segment) Fault → Type 0
OfView true s graphs graph d outcome = IsOfView s graphs graph d outcome
OfView false s graphs graph d outcome = outcome ≡ Ok []

-- the segments of the view of a head; a head that names a graph declares none
abbrev pub declared : Named → Tree (ast.RowOf (ast.RowOf APattern)) → (filter cost : Tree (ast.RowOf AFormula)) → Declared
declared name chains filter cost = record { name = name; chains = chains; filter = filter; cost = cost }

abbrev pub OfHead : Scope → List PropertyGraph → (graph : ℕ) → Tree ast.AHead → Result (List Segment) Fault → Type 0
OfHead s graphs graph (PathHead name chains filter cost) outcome =
    OfView (is_view (declared name chains filter cost)) s graphs graph (declared name chains filter cost) outcome
OfHead s graphs graph (GraphHead name query) outcome = outcome ≡ Ok []

-- the segments of a use, under the number of its view and of its graph
abbrev pub entry : UsedView → List Segment → Segments
entry u segments = record { view = record { 0 = u.view }; graph = u.graph; segments = segments }

-- the segments of uses, one after another; the first fault ends all
unfoldable pub OfUses : Scope → List PropertyGraph → List UsedView → Result (List Segments) Fault → Type 0
OfUses s graphs [] outcome = outcome ≡ Ok []
OfUses s graphs (u ∷ uses) outcome =
    (first : Result (List Segment) Fault) × OfHead s graphs u.graph u.head first
    × Then first (λ segments whole. (rest : Result (List Segments) Fault) × OfUses s graphs uses rest
    × Then rest (λ entries all. all ≡ Ok (entry u segments ∷ entries)) whole) outcome

-- the segments that a block uses: of each view in the order of the heads, on each graph in the order of first use
abbrev pub uses_of_block : Scope → alg.Tree alg.ABlock → List UsedView
uses_of_block s block = in_turn 0 s.views (each_use_once (uses_in block))

abbrev pub HasSegments : Scope → List PropertyGraph → alg.Tree alg.ABlock → Result (List Segments) Fault → Type 0
HasSegments s graphs block = OfUses s graphs (uses_of_block s block)
