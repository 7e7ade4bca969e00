-- The data that the tokens to come begin with, and the tokens after it, as serde_json reads a text.
use Rattle.std.specs.Prelude.{ℕ, Bool, true, false, List, [], ◌∷◌, length, Option, Some, None, option_map, option_and_then}
use Rattle.json.specs.Token.{Token}
use Rattle.json.specs.Json.{value, items as json_items, members as json_members}
use Rattle.serde_json.specs.Data.{Data, Items, Members}
use Rattle.serde_json.specs.Read.{of_json, of_items, of_members, converted}

-- one value
unfoldable pub value_data : ℕ → List Token → Option (Data × List Token)
value_data depth ts = converted of_json (value depth ts)

-- the items of an array up to its bracket
unfoldable pub items_data : ℕ → List Token → Option (Items × List Token)
items_data depth ts = converted of_items (json_items (value depth) (length ts) ts)

-- the members of an object up to its brace, put among those found before
unfoldable pub members_data : ℕ → Members → List Token → Option (Members × List Token)
members_data depth found ts = converted (λ ms. of_members ms found) (json_members (value depth) (length ts) ts)

-- the tokens after what was read
abbrev pub rest_of : {A : Type 0} → Option (A × List Token) → Option (List Token)
rest_of o = option_map (λ p. p.1) o

-- what was read, where no token is left
abbrev pub if_no_token : {A : Type 0} → A → List Token → Option A
if_no_token a [] = Some a
if_no_token a (t ∷ ts) = None

abbrev pub whole_text : {A : Type 0} → Option (A × List Token) → Option A
whole_text o = option_and_then (λ p. if_no_token p.0 p.1) o

-- the bracket that opens an array
abbrev pub opens_array : Token → Bool
opens_array Token.begin_array = true
opens_array t = false

-- the brace that opens an object
abbrev pub opens_object : Token → Bool
opens_object Token.begin_object = true
opens_object t = false

-- whether a token of a kind comes first
abbrev pub begins_with : (Token → Bool) → List Token → Bool
begins_with is [] = false
begins_with is (t ∷ ts) = is t
