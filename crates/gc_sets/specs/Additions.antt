-- Elements that are added to a graph under construction.
use Rattle.std.specs.Prelude.{◌≡◌, ℕ, false, List, [], ◌∷◌, ◌++◌, ⊤, fold}
use Rattle.std.specs.List.{filter}
use Rattle.gc_base.specs.Ascending.{with_item}
use Rattle.gc_spec.specs.PropertyGraph.{PropertyGraph, Node, Edge, Path, empty_graph, is_among, is_walk, node_ids, edge_ids, path_ids, node_order, edge_order, path_order}
use Rattle.gc_sets.specs.Elements.{stands}

-- identities are new: each is none of those that are taken, and none of those before it
abbrev pub AreNew : List ℕ → List ℕ → Type 0
AreNew taken [] = ⊤
AreNew taken (id ∷ ids) = (is_among taken id ≡ false) × AreNew (id ∷ taken) ids

-- a graph with more nodes, more edges, more stored paths
abbrev pub with_nodes : PropertyGraph → List Node → PropertyGraph
with_nodes g nodes = record g { nodes = fold (with_item node_order) g.nodes nodes }

abbrev pub with_edges : PropertyGraph → List Edge → PropertyGraph
with_edges g edges = record g { edges = fold (with_item edge_order) g.edges edges }

abbrev pub with_paths : PropertyGraph → List Path → PropertyGraph
with_paths g paths = record g { paths = fold (with_item path_order) g.paths paths }

-- elements for a new graph, whose identities are all distinct
pub record ArePartsOf (nodes : List Node) (edges : List Edge) (paths : List Path) : Type 0 where
  pub new_nodes : AreNew [] (node_ids nodes)
  pub new_edges : AreNew (node_ids nodes) (edge_ids edges)
  pub new_paths : AreNew (node_ids nodes ++ edge_ids edges) (path_ids paths)

-- the graph of some nodes, of the edges that stand between them, and of the stored paths that go along these
abbrev pub nodes_alone : List Node → PropertyGraph
nodes_alone nodes = with_nodes empty_graph nodes

abbrev pub with_standing : PropertyGraph → List Edge → PropertyGraph
with_standing g edges = with_edges g (filter (stands g.nodes) edges)

abbrev pub with_walking : PropertyGraph → List Path → PropertyGraph
with_walking g paths = with_paths g (filter (λ p. is_walk g.nodes g.edges p.walk) paths)

abbrev pub assembled : List Node → List Edge → List Path → PropertyGraph
assembled nodes edges paths = with_walking (with_standing (nodes_alone nodes) edges) paths
