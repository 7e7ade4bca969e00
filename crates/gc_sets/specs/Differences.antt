-- What is left of a graph where the elements of another are taken away.
use Rattle.std.specs.Prelude.{Bool, ◌&&◌, List}
use Rattle.std.specs.List.{filter, list_all}
use Rattle.gc_base.specs.declared.walk.Walk.{Walk}
use Rattle.gc_spec.specs.PropertyGraph.{PropertyGraph, Node, Edge, Path, node_ids, edge_ids, is_among}
use Rattle.gc_sets.specs.Elements.{others, stands}

-- Take from 1 -3-> 2 -4-> 1, with the path 5 along 3 and the path 6 that stays at 1, the node 2 and the path 6 of another
-- graph: the node 1 is left, and nothing else, since the edges 3 and 4 have lost an end and the path 5 an edge.

-- whether all nodes and edges of a walk are among some
abbrev pub goes_along : List Node → List Edge → Walk → Bool
goes_along nodes edges walk =
    is_among (node_ids nodes) walk.start && list_all (λ step. is_among (edge_ids edges) step.edge && is_among (node_ids nodes) step.node) walk.steps

-- the nodes of the first that are not in the second
abbrev pub nodes_left : PropertyGraph → PropertyGraph → List Node
nodes_left a b = others (λ n. n.id) a.nodes b.nodes

-- the edges of the first that are not in the second and whose ends are left
abbrev pub edges_left : PropertyGraph → PropertyGraph → List Edge
edges_left a b = filter (stands (nodes_left a b)) (others (λ e. e.id) a.edges b.edges)

-- the stored paths of the first that are not in the second and whose nodes and edges are all left
abbrev pub paths_left : PropertyGraph → PropertyGraph → List Path
paths_left a b = filter (λ p. goes_along (nodes_left a b) (edges_left a b) p.walk) (others (λ p. p.id) a.paths b.paths)

-- the difference of two graphs; what is left has the labels and properties of the first
abbrev pub difference : PropertyGraph → PropertyGraph → PropertyGraph
difference a b = record { nodes = nodes_left a b; edges = edges_left a b; paths = paths_left a b }
