-- The data of tokens, by the first token or the first turn of a loop.
use Rattle.std.proofs.Common.{ℕ, ◌-◌, ◌==◌, List, [], ◌∷◌, if◌then◌else◌, Option, Some, None, option_map}
use Rattle.json.specs.Token.{Token}
use Rattle.json.specs.Json.{parse_map}
use Rattle.serde_json.specs.Data.{Data, null, boolean, number, string, array, object, Items, no_items, item, Members, no_members, put}
use Rattle.serde_json.specs.Read.{number_of}
use Rattle.gc_json.specs.Tokens.{value_data, items_data, members_data}

-- one value, by the first token
abbrev pub data_by_token : ℕ → List Token → Option (Data × List Token)
data_by_token depth [] = None
data_by_token depth (Token.begin_object ∷ ts) = if depth == 0 then None else parse_map object (members_data (depth - 1) no_members ts)
data_by_token depth (Token.end_object ∷ ts) = None
data_by_token depth (Token.begin_array ∷ ts) = if depth == 0 then None else parse_map array (items_data (depth - 1) ts)
data_by_token depth (Token.end_array ∷ ts) = None
data_by_token depth (Token.key s ∷ ts) = None
data_by_token depth (Token.string s ∷ ts) = Some (string s, ts)
data_by_token depth (Token.number s ∷ ts) = option_map (λ n. (number n, ts)) (number_of s)
data_by_token depth (Token.boolean b ∷ ts) = Some (boolean b, ts)
data_by_token depth (Token.null ∷ ts) = Some (null, ts)
data_by_token depth (Token.bad ∷ ts) = None

-- the items of an array, by the bracket that may come and the value that may come
abbrev pub items_by_turn : ℕ → Option (List Token) → Option (Data × List Token) → Option (Items × List Token)
items_by_turn depth (Some rest) first = Some (no_items, rest)
items_by_turn depth None None = None
items_by_turn depth None (Some p) = parse_map (item p.0) (items_data depth p.1)

-- the members of an object, by the key that may come
abbrev pub member_by_turn : ℕ → Members → List ℕ → Option (Data × List Token) → Option (Members × List Token)
member_by_turn depth found key None = None
member_by_turn depth found key (Some p) = members_data depth (put key p.0 found) p.1

abbrev pub members_by_turn : ℕ → Members → Option (Option (List ℕ) × List Token) → Option (Members × List Token)
members_by_turn depth found None = None
members_by_turn depth found (Some (None, rest)) = Some (found, rest)
members_by_turn depth found (Some (Some key, rest)) = member_by_turn depth found key (value_data depth rest)
