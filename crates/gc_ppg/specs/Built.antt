-- What a builder adds, and what it tests.
use Rattle.std.specs.Prelude.{ℕ, ◌+◌, Bool, ◌&&◌, ◌||◌, ◌==◌, List, [], ◌∷◌, Option, Some, None, if◌then◌else◌}
use Rattle.gc_base.specs.Ascending.{with_item}
use Rattle.gc_base.specs.PropertyLists.{AreProperties, IsLabelSet}
use Rattle.gc_base.specs.declared.walk.Step.{Step}
use Rattle.gc_base.specs.declared.walk.Walk.{Walk}
use Rattle.gc_spec.specs.PropertyGraph.{PropertyGraph, Node, Edge, Path, IsId, node_ids, is_among, is_joined, node_order, edge_order, path_order}

-- the graph with one more node
abbrev pub with_node : PropertyGraph → Node → PropertyGraph
with_node g n = record g { nodes = with_item node_order g.nodes n }

-- the graph with one more edge
abbrev pub with_edge : PropertyGraph → Edge → PropertyGraph
with_edge g e = record g { edges = with_item edge_order g.edges e }

-- the graph with one more stored path
abbrev pub with_path : PropertyGraph → Path → PropertyGraph
with_path g p = record g { paths = with_item path_order g.paths p }

-- an end of an edge that is no node: the source, else the target
abbrev pub missing_end : List Node → Edge → Option ℕ
missing_end nodes e =
    if is_among (node_ids nodes) e.from then (if is_among (node_ids nodes) e.to then None else Some e.to) else Some e.from

-- whether an edge joins two nodes, in one direction or the other
abbrev pub has_ends : ℕ → ℕ → Edge → Bool
has_ends a b e = (e.from == a && e.to == b) || (e.from == b && e.to == a)

-- the number of the first step that goes along no edge that joins the node before it and its own, where the first has the number k
abbrev pub bad_step_from : List Edge → ℕ → ℕ → List Step → Option ℕ
bad_step_from edges node k [] = None
bad_step_from edges node k (step ∷ steps) =
    if is_joined edges step.edge node step.node then bad_step_from edges step.node (k + 1) steps else Some k

-- where a walk fails: 0 if its start is no node, else the first step that fails, counted from 0
abbrev pub bad_step : List Node → List Edge → Walk → Option ℕ
bad_step nodes edges walk = if is_among (node_ids nodes) walk.start then bad_step_from edges walk.start 0 walk.steps else Some 0

-- what is so of an edge in whatever graph
pub record IsEdgeAlone (e : Edge) : Type 0 where
  pub id : IsId e.id
  pub labels : IsLabelSet e.labels
  pub properties : AreProperties e.properties

-- what is so of a stored path in whatever graph
pub record IsPathAlone (p : Path) : Type 0 where
  pub id : IsId p.id
  pub labels : IsLabelSet p.labels
  pub properties : AreProperties p.properties
