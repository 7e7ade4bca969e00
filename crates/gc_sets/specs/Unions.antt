-- The elements of two graphs together.
use Rattle.std.specs.Prelude.{◌≡◌, ℕ, ◌==◌, List, ◌++◌, map, Option, Some, None}
use Rattle.std.specs.List.{find}
use Rattle.gc_spec.specs.PropertyGraph.{PropertyGraph, Edge, Path, IsGraph, node_at, edge_at, path_at}
use Rattle.gc_sets.specs.Descriptions.{united_labels, united_properties, united_node}
use Rattle.gc_sets.specs.Elements.{others}

-- Unite the node 1 :A {x: 1} with the nodes 1 :B {x: 2, y: 3} and 2: the nodes 1 :A :B {x: 1, 2; y: 3} and 2.

-- an edge, a stored path with the labels and values of another beside its own
abbrev pub united_edge : Edge → Edge → Edge
united_edge a b = record a { labels = united_labels a.labels b.labels; properties = united_properties a.properties b.properties }

abbrev pub united_path : Path → Path → Path
united_path a b = record a { labels = united_labels a.labels b.labels; properties = united_properties a.properties b.properties }

-- what the one, the other or both say of an identity
abbrev pub either : {X : Type 0} → (X → X → X) → Option X → Option X → Option X
either unite None y = y
either unite (Some x) None = Some x
either unite (Some x) (Some y) = Some (unite x y)

-- the union of two graphs: at each identity what either or both say of it
pub record IsUnion (a b g : PropertyGraph) : Type 0 where
  pub graph : IsGraph g
  pub nodes : (id : ℕ) → node_at g.nodes id ≡ either united_node (node_at a.nodes id) (node_at b.nodes id)
  pub edges : (id : ℕ) → edge_at g.edges id ≡ either united_edge (edge_at a.edges id) (edge_at b.edges id)
  pub paths : (id : ℕ) → path_at g.paths id ≡ either united_path (path_at a.paths id) (path_at b.paths id)

-- an element with what another says of it, if there is one
abbrev pub beside : {X : Type 0} → (X → X → X) → X → Option X → X
beside unite x None = x
beside unite x (Some y) = unite x y

-- the elements of a list, each with what a second list says of its identity
abbrev pub united : {X : Type 0} → (X → X → X) → (X → ℕ) → List X → List X → List X
united unite id_of xs ys = map (λ x. beside unite x (find (λ y. id_of y == id_of x) ys)) xs

-- those of the first list, and then those that the second alone has
abbrev pub together : {X : Type 0} → (X → X → X) → (X → ℕ) → List X → List X → List X
together unite id_of xs ys = united unite id_of xs ys ++ others id_of ys xs
