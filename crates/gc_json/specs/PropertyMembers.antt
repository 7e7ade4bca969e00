-- The properties of an element in a graph file.
use Rattle.std.specs.Prelude.{ℕ, ◌&&◌, Bool, true, not, List, map, if◌then◌else◌, Result, Ok, Err}
use Rattle.std.specs.List.{filter}
use Rattle.gc_base.specs.PropertyLists.{is_nil}
use Rattle.gc_base.specs.Words.{is_word}
use Rattle.gc_base.specs.declared.properties.Property.{Property}
use Rattle.serde_json.specs.Data.{Data, Members, no_members, member}
use Rattle.gc_json.specs.Gathering.{all_or_first, pairs_of}
use Rattle.gc_json.specs.LiteralValues.{values_of}
use Rattle.gc_json.specs.Reading.{◌>>=◌}
use Rattle.gc_json.specs.declared.fault.Fault.{Fault}
use Rattle.gc_json.specs.declared.fault.Fault.TheVariants.{BadName}

-- whether each key has the form of a word
abbrev pub are_names : Members → Bool
are_names no_members = true
are_names (member key d ms) = is_word key && are_names ms

-- a name has the form of a word
abbrev pub name_of : List ℕ → Result (List ℕ) Fault
name_of key = if is_word key then Ok key else Err BadName

-- a property is a name with values
abbrev pub property_of : List ℕ → Data → Result Property Fault
property_of key d = name_of key >>= λ name. values_of d >>= λ values. Ok (record { name = name; values = values })

-- whether a property has a value
abbrev pub has_values : Property → Bool
has_values p = not (is_nil p.values)

-- a property for each member that has values, in the order of the members: an object has each key once, ascending
abbrev pub properties_among : Members → Result (List Property) Fault
properties_among ms = all_or_first (map (λ m. property_of m.0 m.1) (pairs_of ms)) >>= λ ps. Ok (filter has_values ps)

-- the properties of an object; all names are tested before all values
abbrev pub properties_of : Members → Result (List Property) Fault
properties_of ms = if are_names ms then properties_among ms else Err BadName
