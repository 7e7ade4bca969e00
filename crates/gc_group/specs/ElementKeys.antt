-- Keys that are elements alone.
use Rattle.std.specs.Prelude.{ℕ, List, [], ◌∷◌, Option, Some}
use Rattle.gc_group.specs.declared.element_key.ElementKey.{ElementKey}
use Rattle.gc_group.specs.declared.element_key.EndsKey.{EndsKey}
use Rattle.gc_group.specs.declared.element_key.NodeKey.{NodeKey}
use Rattle.gc_group.specs.declared.element_key.ElementKey.TheVariants as element
use Rattle.gc_group.specs.declared.key.Key.{Key}
use Rattle.gc_rows.specs.declared.datum.Datum.{Datum}
use Rattle.gc_rows.specs.declared.datum.Datum.TheVariants.{Node, Edge, Stored}

abbrev pub parts_of : ElementKey → List (Option Datum)
parts_of (element.Node id) = Some (Node id) ∷ []
parts_of (element.Edge id) = Some (Edge id) ∷ []
parts_of (element.Stored id) = Some (Stored id) ∷ []

abbrev pub key_of : ElementKey → Key
key_of key = record { parts = parts_of key }

-- the kind of the element: nodes, edges, stored paths
abbrev pub first_kind : ElementKey → ℕ
first_kind (element.Node id) = 0
first_kind (element.Edge id) = 1
first_kind (element.Stored id) = 2

-- a node as a key
abbrev pub node_key : NodeKey → Key
node_key key = record { parts = Some (Node key.node) ∷ [] }

-- the ends of an edge: take one from node 3 to node 5, and it has a key of two parts, which are these nodes
abbrev pub ends_key : EndsKey → Key
ends_key key = record { parts = Some (Node key.source) ∷ Some (Node key.target) ∷ [] }
