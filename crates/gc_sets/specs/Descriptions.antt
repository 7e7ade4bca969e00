-- The labels and the properties of two elements together.
use Rattle.std.specs.Prelude.{ℕ, List, [], fold}
use Rattle.std.specs.Option.{unwrap_or}
use Rattle.gc_base.specs.Ascending.{with_item}
use Rattle.gc_base.specs.Literals.{literal_order, text_order}
use Rattle.gc_base.specs.PropertyLists.{put, values_of}
use Rattle.gc_base.specs.declared.literal.Literal.{Literal}
use Rattle.gc_base.specs.declared.properties.Property.{Property}
use Rattle.gc_spec.specs.PropertyGraph.{Node}

-- the labels of both
abbrev pub united_labels : List (List ℕ) → List (List ℕ) → List (List ℕ)
united_labels = fold (with_item text_order)

-- the values of both
abbrev pub united_values : List Literal → List Literal → List Literal
united_values = fold (with_item literal_order)

-- properties, and the values of one more beside those that its name has
abbrev pub with_values : List Property → Property → List Property
with_values properties p = put properties (record { name = p.name; values = united_values (unwrap_or (values_of properties p.name) []) p.values })

-- the properties of both
abbrev pub united_properties : List Property → List Property → List Property
united_properties = fold with_values

-- a node with the labels and the values of another beside its own
abbrev pub united_node : Node → Node → Node
united_node a b = record a { labels = united_labels a.labels b.labels; properties = united_properties a.properties b.properties }
