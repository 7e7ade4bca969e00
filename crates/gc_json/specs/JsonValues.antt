-- Looking into the values of a graph file.
use Rattle.std.specs.Prelude.{ℕ, ◌==◌, ◌&&◌, Bool, true, false, List, nat_le, nat_eq, if◌then◌else◌, Option, Some, None, option_and_then, Result, Ok}
use Rattle.std.specs.Str.{is_utf8}
use Rattle.std.specs.List.{list_any}
use Rattle.std.specs.Cmp.Lexicographic.{pointwise}
use Rattle.serde_json.specs.Data.{Data, Items, no_items, Members, no_members, member}
use Rattle.serde_json.specs.Find.{get, as_number, as_u64, as_array, as_object}
use Rattle.serde_json.specs.Read.{read}
use Rattle.gc_json.specs.Reading.{or_refused}
use Rattle.gc_json.specs.declared.fault.Fault.{Fault}
use Rattle.gc_json.specs.declared.fault.Fault.TheVariants.{WrongShape}

-- the value of JSON text, which is UTF-8
abbrev pub value_of : List ℕ → Option Data
value_of bytes = if is_utf8 bytes then read bytes else None

-- whether a key is among some
abbrev pub is_key_among : List (List ℕ) → List ℕ → Bool
is_key_among keys key = list_any (pointwise nat_eq key) keys

-- whether each member has one of these keys
abbrev pub has_only : List (List ℕ) → Members → Bool
has_only keys no_members = true
has_only keys (member key d ms) = is_key_among keys key && has_only keys ms

-- whether a value is an object with no key but these
abbrev pub is_object_of : List (List ℕ) → Option Members → Bool
is_object_of keys None = false
is_object_of keys (Some ms) = has_only keys ms

-- the whole number that a value is, if there is one
abbrev pub number_in : Option Data → Option ℕ
number_in o = option_and_then as_u64 (option_and_then as_number o)

-- the whole number at a key of an object
abbrev pub number_at : List ℕ → Data → Option ℕ
number_at key d = number_in (get key d)

-- whether a number is there and is 1
abbrev pub is_one : Option ℕ → Bool
is_one None = false
is_one (Some n) = n == 1

-- the largest identity
abbrev pub largest_id : ℕ
largest_id = 9007199254740991

-- an identity is at most the largest
abbrev pub id_of : ℕ → Option ℕ
id_of n = if nat_le n largest_id then Some n else None

-- the items of an array; without one there are none
abbrev pub items_in : Option Data → Result Items Fault
items_in None = Ok no_items
items_in (Some d) = or_refused WrongShape (as_array d)

-- the items of the array at a key
abbrev pub list_at : List ℕ → Data → Result Items Fault
list_at key d = items_in (get key d)

-- the members of an object; without one there are none
abbrev pub members_in : Option Data → Result Members Fault
members_in None = Ok no_members
members_in (Some d) = or_refused WrongShape (as_object d)
