-- The canonical text of a graph.
use Rattle.std.specs.Prelude.{ℕ, ◌+◌, List, [], ◌∷◌, length, map, codes}
use Rattle.gc_base.specs.declared.literal.Literal.{Literal}
use Rattle.gc_base.specs.declared.literal.Literal.TheVariants.{Truth, Number, Text}
use Rattle.gc_base.specs.declared.properties.Property.{Property}
use Rattle.gc_base.specs.declared.walk.Step.{Step}
use Rattle.gc_base.specs.declared.walk.Walk.{Walk}
use Rattle.gc_spec.specs.PropertyGraph.{Node, Edge, Path, PropertyGraph}
use Rattle.serde_json.specs.Data.{unsigned, Data, boolean, number, string, array, object, Items, no_items, item, Members, no_members, member}
use Rattle.serde_json.specs.Find.{of_integer}
use Rattle.serde_json.specs.View.{items_of}
use Rattle.serde_json.specs.Written.{compact_text}

-- the data of each item of a list, as an array
abbrev pub array_of : {X : Type 0} → (X → Data) → List X → Data
array_of f xs = array (items_of (map f xs))

-- an identity is its number
abbrev pub id_data : ℕ → Data
id_data id = number (unsigned id)

-- a truth, a whole number or a text is the same in JSON
abbrev pub literal_data : Literal → Data
literal_data (Truth t) = boolean t
literal_data (Number n) = number (of_integer n)
literal_data (Text t) = string t

-- labels are an array of texts
abbrev pub labels_data : List (List ℕ) → Data
labels_data = array_of string

-- the values of a property are an array, also where there is one
abbrev pub values_data : List Literal → Data
values_data = array_of literal_data

-- a member for each property
abbrev pub property_members : List Property → Members
property_members [] = no_members
property_members (p ∷ ps) = member p.name (values_data p.values) (property_members ps)

abbrev pub properties_data : List Property → Data
properties_data ps = object (property_members ps)

-- the edge and the node of each step
abbrev pub step_items : List Step → Items
step_items [] = no_items
step_items (s ∷ ss) = item (id_data s.edge) (item (id_data s.node) (step_items ss))

-- a walk is an array of its nodes and edges in turn
abbrev pub walk_data : Walk → Data
walk_data walk = array (item (id_data walk.start) (step_items walk.steps))

-- the keys of each object ascend, and all of them are there
abbrev pub node_data : Node → Data
node_data n =
    object
    (member (codes "id") (id_data n.id)
    (member (codes "labels") (labels_data n.labels) (member (codes "properties") (properties_data n.properties) no_members)))

abbrev pub edge_data : Edge → Data
edge_data e =
    object
    (member (codes "from") (id_data e.from)
    (member (codes "id") (id_data e.id)
    (member (codes "labels") (labels_data e.labels)
    (member (codes "properties") (properties_data e.properties) (member (codes "to") (id_data e.to) no_members)))))

abbrev pub path_data : Path → Data
path_data p =
    object
    (member (codes "id") (id_data p.id)
    (member (codes "labels") (labels_data p.labels)
    (member (codes "properties") (properties_data p.properties) (member (codes "walk") (walk_data p.walk) no_members))))

abbrev pub graph_data : PropertyGraph → Data
graph_data g =
    object
    (member (codes "edges") (array_of edge_data g.edges)
    (member (codes "gcore") (number (unsigned 1))
    (member (codes "nodes") (array_of node_data g.nodes) (member (codes "paths") (array_of path_data g.paths) no_members))))

-- the compact JSON text of a graph; two graphs that are equal have one text
abbrev pub canonical_text : PropertyGraph → List ℕ
canonical_text g = compact_text (graph_data g)

-- how many elements a graph has
abbrev pub element_count : PropertyGraph → ℕ
element_count g = length g.nodes + length g.edges + length g.paths
