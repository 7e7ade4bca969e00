-- The members of an object in the order of the text, where a key may come twice.
use Rattle.std.specs.Prelude.{ℕ, suc, ◌-◌, List, [], ◌∷◌, length, if◌then◌else◌, nat_le, Option, Some, None, option_map, option_and_then}
use Rattle.std.specs.List.{fold}
use Rattle.std.specs.Option.{option_or}
use Rattle.std.specs.Str.{bytes_eq}
use Rattle.json.specs.Token.{Token}
use Rattle.json.specs.Json as json
use Rattle.json.specs.Json.{value}
use Rattle.serde_json.specs.Data.{Data, Members, put}
use Rattle.serde_json.specs.Read.{of_json, converted}
use Rattle.gc_json.specs.Tokens.{value_data, whole_text}

-- each key with its value
abbrev pub Entries : Type 0
Entries = List (List ℕ × Data)

abbrev pub of_entries : json.Members → Option Entries
of_entries json.no_members = Some []
of_entries (json.member k j ms) = option_and_then (λ d. option_map (λ es. (k, d) ∷ es) (of_entries ms)) (of_json j)

-- the members of an object up to its brace
unfoldable pub entries_data : ℕ → List Token → Option (Entries × List Token)
entries_data depth ts = converted of_entries (json.members (value depth) (length ts) ts)

-- the object that they make: the last value of a key stays
abbrev pub puts : Members → Entries → Members
puts found es = fold (λ ms e. put e.0 e.1 ms) found es

-- how often a key comes
abbrev pub count_of : List ℕ → Entries → ℕ
count_of k [] = 0
count_of k (e ∷ es) = if bytes_eq e.0 k then suc (count_of k es) else count_of k es

-- the value of a key where it comes the last time
abbrev pub last_at : List ℕ → Entries → Option Data
last_at k [] = None
last_at k (e ∷ es) = option_or (last_at k es) (if bytes_eq e.0 k then Some e.1 else None)

-- the value of a key where it comes the n-th time
abbrev pub nth_at : List ℕ → ℕ → Entries → Option Data
nth_at k n [] = None
nth_at k n (e ∷ es) = if bytes_eq e.0 k then (if nat_le n 1 then Some e.1 else nth_at k (n - 1) es) else nth_at k n es

-- the entries of the object that a whole text is: None where it is no JSON, Some None where it is another value
abbrev pub object_entries : List Token → Option (Option Entries)
object_entries (Token.begin_object ∷ ts) = option_map (λ es. Some es) (whole_text (entries_data 126 ts))
object_entries ts = option_map (λ d. None) (whole_text (value_data 127 ts))
