-- What each element of a graph file has: an identity, maybe labels and properties.
use Rattle.std.specs.Prelude.{ℕ, List, if◌then◌else◌, Result, Ok, Err}
use Rattle.gc_base.specs.declared.properties.Property.{Property}
use Rattle.gc_spec.specs.PropertyGraph.{PropertyGraph, ids_of, node_ids, is_among}
use Rattle.serde_json.specs.Data.{Items, Members}
use Rattle.gc_json.specs.ElementValues.{ElementValues}
use Rattle.gc_json.specs.JsonValues.{number_in, items_in, members_in, id_of}
use Rattle.gc_json.specs.LabelLists.{labels_of}
use Rattle.gc_json.specs.PropertyMembers.{properties_of}
use Rattle.gc_json.specs.Reading.{◌>>=◌, or_refused}
use Rattle.gc_json.specs.declared.fault.Fault.{Fault}
use Rattle.gc_json.specs.declared.fault.Fault.TheVariants.{WrongShape, IdTooLarge, IdTwice, NoEnd}

-- the number of an element, and its labels and properties as they stand in the file
pub record ElementParts : Type 0 where
  pub id : ℕ
  pub labels : Items
  pub properties : Members

-- the parts of the values of an element
abbrev pub parts_at : ElementValues → Result ElementParts Fault
parts_at e =
    or_refused WrongShape (number_in e.id) >>= λ id. items_in e.labels >>= λ labels. members_in e.properties
    >>= λ properties. Ok (record { id = id; labels = labels; properties = properties })

-- the parts of an element with no key but those of its kind
abbrev pub parts_of : ElementValues → Result ElementParts Fault
parts_of e = if e.is_known then parts_at e else Err WrongShape

-- an identity that no element has yet
abbrev pub fresh_id : PropertyGraph → ℕ → Result ℕ Fault
fresh_id g id = if is_among (ids_of g) id then Err IdTwice else Ok id

-- the identity of a number, which is not too large and new
abbrev pub new_id : PropertyGraph → ℕ → Result ℕ Fault
new_id g n = or_refused IdTooLarge (id_of n) >>= fresh_id g

-- an identity of a node
abbrev pub node_id : PropertyGraph → ℕ → Result ℕ Fault
node_id g id = if is_among (node_ids g.nodes) id then Ok id else Err NoEnd

-- the end of an edge, which is a node
abbrev pub end_of : PropertyGraph → ℕ → Result ℕ Fault
end_of g n = or_refused NoEnd (id_of n) >>= node_id g

-- the labels and the properties: all labels are tested before all properties
abbrev pub described : ElementParts → Result (List (List ℕ) × List Property) Fault
described parts = labels_of parts.labels >>= λ labels. properties_of parts.properties >>= λ properties. Ok (labels, properties)
