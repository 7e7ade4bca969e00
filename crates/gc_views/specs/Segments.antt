-- The segments of a PATH view, by the rows of its block.
use Rattle.std.specs.Prelude.{◌≡◌, ⊤, ℕ, ◌^◌, ◌&&◌, Bool, true, false, pos, nat_lt, List, [], ◌∷◌, ◌++◌, length, map, filter, Option, Some, None, Result, Ok, Err, if◌then◌else◌}
use Rattle.std.specs.declared.cmp.Ordering.{Ordering}
use Rattle.std.specs.Ordering.{nat_cmp, ordering_then}
use Rattle.std.specs.Option.{option_map, option_and_then, is_some}
use Rattle.gc_base.specs.Ascending.{Ascends}
use Rattle.gc_base.specs.Literals.{text_order}
use Rattle.gc_base.specs.Words.{is_word}
use Rattle.gc_base.specs.declared.literal.Literal.TheVariants as literal
use Rattle.gc_base.specs.declared.place.Sym.{Sym}
use Rattle.gc_base.specs.declared.walk.Step.{Step}
use Rattle.gc_base.specs.declared.walk.Walk.{Walk}
use Rattle.gc_automata.specs.Moves.{Segment}
use Rattle.gc_expr.specs.Trees.{TreeOf, AnExpr}
use Rattle.gc_rows.specs.Data.{found_order}
use Rattle.gc_rows.specs.Rows.{datum_at}
use Rattle.gc_rows.specs.Tables.{HasExactly}
use Rattle.gc_rows.specs.declared.datum.Datum.{Datum}
use Rattle.gc_rows.specs.declared.datum.Datum.TheVariants as datum
use Rattle.gc_rows.specs.declared.row.Binding.{Binding}
use Rattle.gc_spec.specs.PropertyGraph.{PropertyGraph}
use Rattle.gc_values.specs.Contexts.{Context}
use Rattle.gc_values.specs.ExprValues.{value_of}
use Rattle.gc_values.specs.declared.reads.ReadUse.{ReadUse}
use Rattle.gc_values.specs.declared.val.Val.{Val}
use Rattle.gc_values.specs.declared.val.Val.TheVariants as val
use Rattle.gc_views.specs.declared.fault.ViewFault.{ViewFault}
use Rattle.gc_views.specs.declared.fault.ViewFault.TheVariants as fault
use Rattle.gc_views.specs.declared.trail.Leg.{Leg}
use Rattle.gc_views.specs.declared.trail.Trail.{Trail}

-- Take `PATH v = (a)-[e]->(b) COST e.km` on a graph where the edge 7 goes from node 1 to node 2, and 8 from 2 to 3. If km is 5 at
-- both, the segments are the walk 1,7,2 at 5 and the walk 2,8,3 at 5. If km is 5 at 7, and 8 has no km, the cost of 2,8,3 is bad.

-- a view, as rows are asked for it: its name; the variables along its first chain, if that is one; its COST over variables, if it
-- has one; and what that is read in
pub record View : Type 0 where
  pub name : List ℕ
  pub trail : Option Trail
  pub cost : Option (TreeOf Sym AnExpr)
  pub reads : List ReadUse
  pub graphs : List PropertyGraph

-- a node and an edge, where a variable stands for one
abbrev pub node_of : Option Datum → Option ℕ
node_of (Some (datum.Node id)) = Some id
node_of d = None

abbrev pub edge_of : Option Datum → Option ℕ
edge_of (Some (datum.Edge id)) = Some id
edge_of d = None

-- the step that a row has for a leg
abbrev pub joined_step : Option ℕ → Option ℕ → Option Step
joined_step (Some edge) (Some node) = Some (record { edge = edge; node = node })
joined_step e x = None

abbrev pub step_on : List Binding → Leg → Option Step
step_on row leg = joined_step (edge_of (datum_at row leg.edge)) (node_of (datum_at row leg.node))

abbrev pub steps_on : List Binding → List Leg → Option (List Step)
steps_on row [] = Some []
steps_on row (leg ∷ legs) = option_and_then (λ step. option_map (λ steps. step ∷ steps) (steps_on row legs)) (step_on row leg)

-- the walk of a row along a chain; a row of the block has one
abbrev pub walk_along : List Binding → Trail → Option Walk
walk_along row t =
    option_and_then (λ start. option_map (λ steps. record { start = start; steps = steps }) (steps_on row t.legs)) (node_of (datum_at row t.start))

abbrev pub walk_of : View → List Binding → Option Walk
walk_of v row = option_and_then (walk_along row) v.trail

-- a whole number as a cost: from 1 to 9223372036854775807
abbrev pub as_cost : ℕ → Option ℕ
as_cost n = if nat_lt 0 n && nat_lt n (2 ^ 63) then Some n else None

-- a value as a cost: one number that is a cost
abbrev pub value_cost : Val → Option ℕ
value_cost (val.Set (literal.Number (pos n) ∷ [])) = as_cost n
value_cost v = None

-- the value of COST on a row, or the number of edges of a view without COST, as a cost
abbrev pub context : View → List Binding → Context
context v row = record { row = row; reads = v.reads; graphs = v.graphs; made = [] }

abbrev pub price : View → List Binding → (edges : ℕ) → Option (TreeOf Sym AnExpr) → Option ℕ
price v row edges None = as_cost edges
price v row edges (Some e) = value_cost (value_of (context v row) [] e)

-- the cost of a walk on a row. A walk without an edge has none, whatever COST says; the sort rules want an edge in the first chain
abbrev pub cost_along : View → List Binding → List Step → Option ℕ
cost_along v row [] = None
cost_along v row (step ∷ steps) = price v row (length (step ∷ steps)) v.cost

abbrev pub cost_of : View → List Binding → Walk → Option ℕ
cost_of v row walk = cost_along v row walk.steps

-- the segment of a row: its walk at its cost
abbrev pub segment_at : View → List Binding → Walk → Option Segment
segment_at v row walk = option_map (λ cost. record { view = v.name; walk = walk; cost = cost }) (cost_of v row walk)

abbrev pub segment_of : View → List Binding → Option Segment
segment_of v row = option_and_then (segment_at v row) (walk_of v row)

-- whether a row has a walk in a view that has a name. Each view of a file has one, and each row of the block has a walk
abbrev pub has_walk : View → List Binding → Bool
has_walk v row = is_word v.name && is_some (walk_of v row)

-- the rows that have a walk
abbrev pub walking : View → List (List Binding) → List (List Binding)
walking v rows = filter (has_walk v) rows

-- what a row gives where its cost is not bad: its segment, or nothing without a walk
abbrev pub Gives : View → List Binding → Option Segment → Type 0
Gives v row None = has_walk v row ≡ false
Gives v row (Some segment) = (has_walk v row ≡ true) × (segment_of v row ≡ Some segment)

-- segments by the names of their views, then by their walks, as found walks are ordered (by start, number of edges, edges and
-- nodes), and then by their costs
abbrev pub segment_order : Segment → Segment → Ordering
segment_order a b = ordering_then (text_order a.view b.view) (ordering_then (found_order a.walk b.walk) (nat_cmp a.cost b.cost))

-- each row that has a walk has a segment; the list has exactly these, ascending, each once
pub record AreSegmentsOf (v : View) (rows : List (List Binding)) (segments : List Segment) : Type 0 where
  pub of_rows : List Segment
  pub each : map (segment_of v) (walking v rows) ≡ map Some of_rows
  pub ascend : Ascends segment_order segments
  pub exact : HasExactly of_rows segments

-- a row has a walk, and no cost
pub record IsBad (v : View) (row : List Binding) (walk : Walk) : Type 0 where
  pub walk_is : walk_of v row ≡ Some walk
  pub no_cost : cost_of v row walk ≡ None

-- of the rows that have a walk, each before some row has a segment, and that row has this walk, and no cost
pub record IsFirstBad (v : View) (rows : List (List Binding)) (walk : Walk) : Type 0 where
  pub before : List (List Binding)
  pub row : List Binding
  pub after : List (List Binding)
  pub split : walking v rows ≡ before ++ row ∷ after
  pub of_rows : List Segment
  pub each : map (segment_of v) before ≡ map Some of_rows
  pub bad : IsBad v row walk

-- what a view comes to on rows: its segments, or the walk of the first row whose cost is bad
abbrev pub ComesTo : View → List (List Binding) → Result (List Segment) Walk → Type 0
ComesTo v rows (Ok segments) = AreSegmentsOf v rows segments
ComesTo v rows (Err walk) = IsFirstBad v rows walk

-- a fault is a walk of which something holds, or want of memory
abbrev pub IsFault : (Walk → Type 0) → ViewFault → Type 0
IsFault Holds (fault.BadCost walk) = Holds walk
IsFault Holds fault.Memory = ⊤
