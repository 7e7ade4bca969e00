-- The index of a graph.
use Rattle.std.specs.Prelude.{◌≡◌, List}
use Rattle.gc_spec.specs.PropertyGraph.{PropertyGraph, node_ids}
use Rattle.gc_ppg.specs.KeyedPlaces.{AreEnds}
use Rattle.gc_ppg.specs.LabelPlaces.{IsLabelIndex}
use Rattle.gc_ppg.specs.NodeSides.{far_of}
use Rattle.gc_ppg.specs.declared.index.GraphIndex.{GraphIndex}
use Rattle.gc_ppg.specs.declared.label_index.LabelIndex.{LabelIndex}
use Rattle.gc_ppg.specs.declared.node_edges.Side.{Side}
use Rattle.gc_ppg.specs.declared.node_edges.Side.TheVariants.{Leaving, Coming}
use Rattle.gc_ppg.specs.declared.places.PlaceAt.{PlaceAt}
use Rattle.gc_ppg.specs.declared.shape.Kind.{Kind}
use Rattle.gc_ppg.specs.declared.shape.Kind.TheVariants.{Node, Edge, Path}

-- an index lists the identities of the nodes of a graph, the edges at each, and its elements with each label
pub record IsIndex (g : PropertyGraph) (index : GraphIndex) : Type 0 where
  pub ids : index.node_ids.items ≡ node_ids g.nodes
  pub leaving : AreEnds (λ e. e.from) (far_of Leaving) g.edges index.leaving
  pub coming : AreEnds (λ e. e.to) (far_of Coming) g.edges index.coming
  pub node_labels : IsLabelIndex (λ n. n.labels) g.nodes index.node_labels
  pub edge_labels : IsLabelIndex (λ e. e.labels) g.edges index.edge_labels
  pub path_labels : IsLabelIndex (λ p. p.labels) g.paths index.path_labels

-- the labels of the elements of a kind
abbrev pub labels_in : GraphIndex → Kind → LabelIndex
labels_in index Node = index.node_labels
labels_in index Edge = index.edge_labels
labels_in index Path = index.path_labels

-- the places of the edges at a side of each node
abbrev pub ends_at : Side → GraphIndex → List PlaceAt
ends_at Leaving index = index.leaving
ends_at Coming index = index.coming
