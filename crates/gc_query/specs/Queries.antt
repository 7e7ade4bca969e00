-- What a query comes to: a graph, or a fault.
use Rattle.std.specs.Prelude.{◌≡◌, ℕ, List, [], ◌∷◌, ◌++◌, Result, Ok, slice_get}
use Rattle.std.specs.Option.{unwrap_or}
use Rattle.gc_ast.specs.Trees.{Tree, AQuery, ATerm, AHead, ANextTerm, RowOf, Query, NextTerm, BasicTerm, GraphTerm, QueryTerm, PathHead, GraphHead, none, more}
use Rattle.gc_ast.specs.declared.query.SetOp.{SetOp}
use Rattle.gc_ast.specs.declared.query.SetOp.TheVariants as op
use Rattle.gc_lower.specs.Scopes.{Scope, number_at}
use Rattle.gc_sets.specs.Differences.{difference}
use Rattle.gc_sets.specs.Intersections.{IsIntersection}
use Rattle.gc_sets.specs.Unions.{IsUnion}
use Rattle.gc_spec.specs.PropertyGraph.{PropertyGraph}
use Rattle.gc_query.specs.Basics.{DenotesBasic}
use Rattle.gc_query.specs.Outcomes.{Then}
use Rattle.gc_query.specs.Standings.{Standing, Made}
use Rattle.gc_query.specs.declared.fault.Fault.{Fault}

-- Take two graphs g and h, where the next identity is 5. `CONSTRUCT (x) MATCH (n) ON g UNION h`, where g has one node, comes to the
-- graph of a new node 5 and of all that h has; the next identity is then 6.

-- the graph of a number, where the sort rules let no name be without one; else it would be that without elements
abbrev pub no_elements : PropertyGraph
no_elements = record { nodes = []; edges = []; paths = [] }

abbrev pub graph_of_number : List PropertyGraph → ℕ → PropertyGraph
graph_of_number graphs number = unwrap_or (slice_get graphs number) no_elements

-- the graph that a name stands for, which leaves the next identity as it is
abbrev pub named : Standing → (number : ℕ) → Made
named at number = record { graph = graph_of_number at.graphs number; next = at.next }

-- UNION, INTERSECT and MINUS
abbrev pub IsCombined : SetOp → (a b g : PropertyGraph) → Type 0
IsCombined op.Union a b g = IsUnion a b g
IsCombined op.Intersect a b g = IsIntersection a b g
IsCombined op.Minus a b g = g ≡ difference a b

-- graphs are combined; the next identity is that behind the second
pub record Combines (op : SetOp) (left : PropertyGraph) (right made : Made) : Type 0 where
  pub combined : IsCombined op left right.graph made.graph
  pub behind : made.next ≡ right.next

-- with one more graph, under the next number
abbrev pub with_made : Standing → Made → Standing
with_made at made = record { graphs = at.graphs ++ made.graph ∷ []; next = made.next }

-- the same graphs with a later next identity
abbrev pub from_next : Standing → (next : ℕ) → Standing
from_next at next = record { graphs = at.graphs; next = next }

unfoldable mutual
  -- what a query comes to: its heads in the order of the text, and then its terms over what stands under them
  pub Denotes : Scope → Standing → Tree AQuery → Result Made Fault → Type 0
  Denotes s at (Query heads first rest) =
      λ outcome. (under : Result Standing Fault) × Heads s at heads under
      × Then under (λ now whole. (left : Result Made Fault) × DenotesTerm s now first left × Then left (λ made. Joined s now.graphs made rest) whole) outcome

  -- what stands under heads: the graph of each is one more for all that follow; a view is evaluated where it is used
  pub Heads : Scope → Standing → Tree (RowOf AHead) → Result Standing Fault → Type 0
  Heads s at none = λ under. under ≡ Ok at
  Heads s at (more (PathHead name chains filter cost) heads) = λ under. Heads s at heads under
  Heads s at (more (GraphHead name query) heads) =
      λ under. (local : Result Made Fault) × Denotes s at query local × Then local (λ made. Heads s (with_made at made) heads) under

  -- a term: a CONSTRUCT with its MATCH, a graph by name, or a query in parentheses
  pub DenotesTerm : Scope → Standing → Tree ATerm → Result Made Fault → Type 0
  DenotesTerm s at (BasicTerm basic) = λ outcome. DenotesBasic s at basic outcome
  DenotesTerm s at (GraphTerm g) = λ outcome. outcome ≡ Ok (named at (number_at s.graph_at g.token))
  DenotesTerm s at (QueryTerm query) = λ outcome. Denotes s at query outcome

  -- a graph with later terms, each combined with what stands at its left
  pub Joined : Scope → (graphs : List PropertyGraph) → Made → Tree (RowOf ANextTerm) → Result Made Fault → Type 0
  Joined s graphs left none = λ outcome. outcome ≡ Ok left
  Joined s graphs left (more (NextTerm op term) later) =
      λ outcome. (right : Result Made Fault) × DenotesTerm s (record { graphs = graphs; next = left.next }) term right
      × Then right (λ made whole. (both : Made) × Combines op left.graph made both × Joined s graphs both later whole) outcome

-- what terms come to over what stands, from the left
abbrev pub Terms : Scope → Standing → Tree ATerm → Tree (RowOf ANextTerm) → Result Made Fault → Type 0
Terms s at first rest outcome = (left : Result Made Fault) × DenotesTerm s at first left × Then left (λ made. Joined s at.graphs made rest) outcome
