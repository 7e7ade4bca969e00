-- What two graphs have in common.
use Rattle.std.specs.Prelude.{◌≡◌, ℕ, ◌==◌, not, List, [], ◌∷◌, map, Option, Some, None}
use Rattle.std.specs.List.{filter, find, flat_map}
use Rattle.std.specs.Option.{unwrap_or}
use Rattle.gc_base.specs.Ascending.{has}
use Rattle.gc_base.specs.Literals.{literal_order, text_order}
use Rattle.gc_base.specs.PropertyLists.{is_nil, values_of}
use Rattle.gc_base.specs.declared.literal.Literal.{Literal}
use Rattle.gc_base.specs.declared.properties.Property.{Property}
use Rattle.gc_spec.specs.PropertyGraph.{PropertyGraph, Node, Edge, Path, IsGraph, node_at, edge_at, path_at}

-- Intersect the node 1 :A :B {x: 1, 2; y: 3} with the nodes 1 :B :C {x: 2; y: 4} and 2: the node 1 :B {x: 2}.

-- the labels that both have
abbrev pub common_labels : List (List ℕ) → List (List ℕ) → List (List ℕ)
common_labels xs ys = filter (has text_order ys) xs

-- the values that both have
abbrev pub common_values : List Literal → List Literal → List Literal
common_values xs ys = filter (has literal_order ys) xs

-- a property, with those of its values that its name has among others too
abbrev pub shared : List Property → Property → Property
shared others p = record { name = p.name; values = common_values p.values (unwrap_or (values_of others p.name) []) }

-- the properties that have common values, with these
abbrev pub common_properties : List Property → List Property → List Property
common_properties ps qs = filter (λ p. not (is_nil p.values)) (map (shared qs) ps)

-- a node, an edge, a stored path with the labels and values that another has too
abbrev pub common_node : Node → Node → Node
common_node a b = record a { labels = common_labels a.labels b.labels; properties = common_properties a.properties b.properties }

abbrev pub common_edge : Edge → Edge → Edge
common_edge a b = record a { labels = common_labels a.labels b.labels; properties = common_properties a.properties b.properties }

abbrev pub common_path : Path → Path → Path
common_path a b = record a { labels = common_labels a.labels b.labels; properties = common_properties a.properties b.properties }

-- what both say of an identity
abbrev pub both : {X : Type 0} → (X → X → X) → Option X → Option X → Option X
both common (Some x) (Some y) = Some (common x y)
both common x y = None

-- the intersection of two graphs: at each identity what both say of it
pub record IsIntersection (a b g : PropertyGraph) : Type 0 where
  pub graph : IsGraph g
  pub nodes : (id : ℕ) → node_at g.nodes id ≡ both common_node (node_at a.nodes id) (node_at b.nodes id)
  pub edges : (id : ℕ) → edge_at g.edges id ≡ both common_edge (edge_at a.edges id) (edge_at b.edges id)
  pub paths : (id : ℕ) → path_at g.paths id ≡ both common_path (path_at a.paths id) (path_at b.paths id)

-- an element with what is common to it and another, or none where there is no other
abbrev pub shared_with : {X : Type 0} → (X → X → X) → X → Option X → List X
shared_with common x None = []
shared_with common x (Some y) = common x y ∷ []

-- the elements of a list that a second has too, each with what is common
abbrev pub in_common : {X : Type 0} → (X → X → X) → (X → ℕ) → List X → List X → List X
in_common common id_of xs ys = flat_map (λ x. shared_with common x (find (λ y. id_of y == id_of x) ys)) xs
