-- What a PATH head asks of the rows of its block.
use Rattle.std.specs.Prelude.{◌≡◌, ℕ, List, [], ◌∷◌, Option, Some, None, slice_get}
use Rattle.std.specs.Option.{option_map, option_and_then}
use Rattle.gc_alg.specs.Networks.{Database}
use Rattle.gc_alg.specs.Tables.{IsTableOfBlock}
use Rattle.gc_base.specs.declared.place.Sym.{Sym}
use Rattle.gc_ast.specs.Trees as tree
use Rattle.gc_ast.specs.Trees.{Tree, Named, RowOf, AFormula, APattern}
use Rattle.gc_expr.specs.Trees.{TreeOf, AnExpr, renamed}
use Rattle.gc_lower.specs.Blocks.{view_block}
use Rattle.gc_lower.specs.Chains.{element_variable, node_variable}
use Rattle.gc_lower.specs.Scopes.{Scope, variable_of}
use Rattle.gc_rows.specs.Tables.{Relation}
use Rattle.gc_spec.specs.PropertyGraph.{PropertyGraph}
use Rattle.gc_values.specs.declared.reads.ReadUse.{ReadUse}
use Rattle.gc_views.specs.Segments.{View}
use Rattle.gc_views.specs.declared.trail.Leg.{Leg}
use Rattle.gc_views.specs.declared.trail.Trail.{Trail}

-- Take `(a)-[e]->(b)<-[f]-(c)`: its trail starts at a and has the legs e, b and f, c.

-- the variable of a part of a chain, if that is an edge
abbrev pub edge_variable : Scope → Tree APattern → Option Sym
edge_variable s (tree.Node e) = None
edge_variable s (tree.Edge way e) = Some (element_variable s e)
edge_variable s (tree.Path token regex_at body) = None

-- an edge and the node behind it
abbrev pub leg_of : (edge behind : Option Sym) → Option Leg
leg_of (Some e) (Some x) = Some (record { edge = e; node = x })
leg_of e x = None

-- the legs of what is behind a node: an edge and a node, over and over
abbrev pub legs_of : Scope → Tree (RowOf APattern) → Option (List Leg)
legs_of s tree.none = Some []
legs_of s (tree.more p tree.none) = None
legs_of s (tree.more p (tree.more q ps)) =
    option_and_then (λ leg. option_map (λ legs. leg ∷ legs) (legs_of s ps)) (leg_of (edge_variable s p) (node_variable s q))

-- the trail of a chain of nodes and edges. Any other chain has none; the grammar and the sort rules let no view have one
abbrev pub trail_of : Scope → Tree (RowOf APattern) → Option Trail
trail_of s tree.none = None
trail_of s (tree.more p ps) =
    option_and_then (λ start. option_map (λ legs. record { start = start; legs = legs }) (legs_of s ps)) (node_variable s p)

abbrev pub first_trail : Scope → Tree (RowOf (RowOf APattern)) → Option Trail
first_trail s tree.none = None
first_trail s (tree.more chain chains) = trail_of s chain

-- an expression over variables, and COST, if there is one
abbrev pub expression_of : Scope → Tree AFormula → TreeOf Sym AnExpr
expression_of s (tree.Formula e queries) = renamed (variable_of s) e

abbrev pub cost_tree : Scope → Tree (RowOf AFormula) → Option (TreeOf Sym AnExpr)
cost_tree s tree.none = None
cost_tree s (tree.more cost others) = Some (expression_of s cost)

-- a view as rows are asked for it, by its name, its chains and its COST
abbrev pub head_view : Scope → Named → Tree (RowOf (RowOf APattern)) → Tree (RowOf AFormula) → List ReadUse → List PropertyGraph → View
head_view s name chains cost reads graphs =
    record { name = name.name; trail = first_trail s chains; cost = cost_tree s cost; reads = reads; graphs = graphs }

-- the table of the block of a view, with some WHERE, on a graph of a number
pub record IsTableOfView (s : Scope) (chains : Tree (RowOf (RowOf APattern))) (on : ℕ) (g : PropertyGraph) (table : Relation) : Type 0 where
  pub database : Database
  pub filter : Tree (RowOf AFormula)
  pub there : slice_get database.graphs on ≡ Some g
  pub is_table : IsTableOfBlock (record { database = database; block = view_block s chains filter; given = [] }) table
