-- The elements of a kind by their places.
use Rattle.std.specs.Prelude.{ℕ, List}
use Rattle.gc_spec.specs.PropertyGraph.{PropertyGraph, node_ids, edge_ids, path_ids}
use Rattle.gc_ppg.specs.LabelPlaces.{places_from}
use Rattle.gc_ppg.specs.declared.shape.Kind.{Kind}
use Rattle.gc_ppg.specs.declared.shape.Kind.TheVariants.{Node, Edge, Path}

-- the identities of a kind, ascending
abbrev pub kind_ids : PropertyGraph → Kind → List ℕ
kind_ids g Node = node_ids g.nodes
kind_ids g Edge = edge_ids g.edges
kind_ids g Path = path_ids g.paths

-- the places of the elements of a kind that have a label
abbrev pub labelled_places : PropertyGraph → Kind → List ℕ → List ℕ
labelled_places g Node label = places_from (λ n. n.labels) label 0 g.nodes
labelled_places g Edge label = places_from (λ e. e.labels) label 0 g.edges
labelled_places g Path label = places_from (λ p. p.labels) label 0 g.paths
