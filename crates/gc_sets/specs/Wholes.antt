-- Elements that are all of a graph, where they are one.
use Rattle.std.specs.Prelude.{◌≡◌, Bool, not, ◌&&◌, Option, Some, None}
use Rattle.gc_spec.specs.PropertyGraph.{PropertyGraph, Edge, Path, IsGraph, ids_of, is_among, is_walk}
use Rattle.gc_sets.specs.Elements.{stands}

-- whether an edge can come to a graph: its identity is new, and its ends are nodes
abbrev pub edge_fits : PropertyGraph → Edge → Bool
edge_fits g e = not (is_among (ids_of g) e.id) && stands g.nodes e

-- whether a stored path can come to a graph: its identity is new, and its walk goes along the graph
abbrev pub path_fits : PropertyGraph → Path → Bool
path_fits g p = not (is_among (ids_of g) p.id) && is_walk g.nodes g.edges p.walk

-- the graph of just these elements, or none where they are no graph
abbrev pub IsGraphOf : PropertyGraph → Option PropertyGraph → Type 0
IsGraphOf elements (Some g) = (g ≡ elements) × IsGraph elements
IsGraphOf elements None = IsGraph elements → ⊥
