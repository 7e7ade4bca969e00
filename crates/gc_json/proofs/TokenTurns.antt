-- A turn of each loop of the grammar, as data.
use Rattle.std.proofs.Common.{◌≡◌, ℕ, zero, suc, ◌-◌, ◌<◌, ◌≤◌, List, [], ◌∷◌, length, Option, Some, None, option_map, option_and_then, refl, ap, ap₂, ◌∙◌, ne_eqb, is_some, true, false, Result, Ok, Err, arith}
use Rattle.std.specs.Prelude.{MatchResult}
use Rattle.json.specs.Token.{Token}
use Rattle.json.specs.Json as json
use Rattle.json.specs.Json.{Parse, parse_map, after_end_array, read_key, value}
use Rattle.json.proofs.Grammar.{left, left_some, left_none, read_key-shorter, value-begin_array, value-begin_object, skip_value-shorter}
use Rattle.serde_json.specs.Data.{Num, Data, array, object, no_items, item, Members, no_members, put, number}
use Rattle.serde_json.specs.Read.{number_of, of_json, of_items, of_members, converted, read}
use Rattle.json.specs.Lex.{tokens}
use Rattle.gc_json.specs.Tokens.{value_data, items_data, members_data, rest_of, whole_text}
use Rattle.gc_json.proofs.ByToken.{data_by_token, items_by_turn, members_by_turn, member_by_turn}
use Rattle.gc_json.proofs.Fuel.{items_fuel, members_fuel}

twice : {A B : Type 0} (g : A → B) (r : List Token) (x : Option A) → option_map (λ b. (b, r)) (option_map g x) ≡ parse_map g (option_map (λ a. (a, r)) x)
twice g r None = refl
twice g r (Some a) = refl

converted-array : (o : Option (json.Items × List Token)) → converted of_json (parse_map json.array o) ≡ parse_map array (converted of_items o)
converted-array None = refl
converted-array (Some p) = twice array p.1 (of_items p.0)

converted-object : (o : Option (json.Members × List Token)) → converted of_json (parse_map json.object o) ≡ parse_map object (converted (λ ms. of_members ms no_members) o)
converted-object None = refl
converted-object (Some p) = twice object p.1 (of_members p.0 no_members)

at_number : (ts : List Token) (o : Option Num) → option_map {U = Data × List Token} (λ b. (b, ts)) (option_map number o) ≡ option_map {U = Data × List Token} (λ n. (number n, ts)) o
at_number ts None = refl
at_number ts (Some n) = refl

-- ---- one value

pub value_is : (depth : ℕ) (ts : List Token) → value_data depth ts ≡ data_by_token depth ts
unfolding value_data value items_data members_data
value_is zero [] = refl
value_is zero (Token.begin_object ∷ ts) = refl
value_is zero (Token.end_object ∷ ts) = refl
value_is zero (Token.begin_array ∷ ts) = refl
value_is zero (Token.end_array ∷ ts) = refl
value_is zero (Token.key s ∷ ts) = refl
value_is zero (Token.string s ∷ ts) = refl
value_is zero (Token.number s ∷ ts) = at_number ts (number_of s)
value_is zero (Token.boolean b ∷ ts) = refl
value_is zero (Token.null ∷ ts) = refl
value_is zero (Token.bad ∷ ts) = refl
value_is (suc d) [] = refl
value_is (suc d) (Token.begin_object ∷ ts) =
    rw (ne_eqb (suc d) 0 (λ e. omega arith)) (ap (converted of_json) (value-begin_object (suc d) ts (omega arith)) ∙ converted-object (json.members (value (suc d - 1)) (length ts) ts))
value_is (suc d) (Token.end_object ∷ ts) = refl
value_is (suc d) (Token.begin_array ∷ ts) =
    rw (ne_eqb (suc d) 0 (λ e. omega arith)) (ap (converted of_json) (value-begin_array (suc d) ts (omega arith)) ∙ converted-array (json.items (value (suc d - 1)) (length ts) ts))
value_is (suc d) (Token.end_array ∷ ts) = refl
value_is (suc d) (Token.key s ∷ ts) = refl
value_is (suc d) (Token.string s ∷ ts) = refl
value_is (suc d) (Token.number s ∷ ts) = at_number ts (number_of s)
value_is (suc d) (Token.boolean b ∷ ts) = refl
value_is (suc d) (Token.null ∷ ts) = refl
value_is (suc d) (Token.bad ∷ ts) = refl

-- ---- the items of an array

with_item : (j : json.Json) (d : Data) → of_json j ≡ Some d → (o : Option (json.Items × List Token)) → converted of_items (parse_map (json.item j) o) ≡ parse_map (item d) (converted of_items o)
with_item j d e None = refl
with_item j d e (Some p) = rw e (twice (item d) p.1 (of_items p.0))

without_item : (j : json.Json) → of_json j ≡ None → (o : Option (json.Items × List Token)) → converted of_items (parse_map (json.item j) o) ≡ None
without_item j e None = refl
without_item j e (Some p) = rw e

module _ (depth n : ℕ) where
  one_item : (j : json.Json) (r : List Token) (x : Option Data) → of_json j ≡ x → length r ≤ n
      → converted of_items (parse_map (json.item j) (json.items (value depth) n r)) ≡ items_by_turn depth None (option_map (λ b. (b, r)) x)
  unfolding items_data
  one_item j r None e h = without_item j e _
  one_item j r (Some d) e h = with_item j d e _ ∙ ap (λ o. parse_map (item d) (converted of_items o)) (items_fuel (value depth) (skip_value-shorter depth) n (length r) r h (omega arith))

  first_item : (o : Option (json.Json × List Token)) → ((x : List Token) → left o ≡ Some x → length x ≤ n)
      → converted of_items (option_and_then (λ q. parse_map (json.item q.0) (json.items (value depth) n q.1)) o) ≡ items_by_turn depth None (converted of_json o)
  first_item None h = refl
  first_item (Some q) h = one_item q.0 q.1 (of_json q.0) refl (h q.1 refl)

  items_turn : (ts : List Token) (e : Option (List Token)) → length ts ≤ n → converted of_items (json.items_step (value depth) (json.items (value depth) n) ts e) ≡ items_by_turn depth e (value_data depth ts)
  unfolding value_data
  items_turn ts (Some rest) h = refl
  items_turn ts None h = first_item (value depth ts) (λ x is. omega (arith, skip_value-shorter depth ts x is))

pub items_is : (depth : ℕ) (ts : List Token) → items_data depth ts ≡ items_by_turn depth (after_end_array ts) (value_data depth ts)
unfolding items_data json.items
items_is depth ts =
    ap (converted of_items) (items_fuel (value depth) (skip_value-shorter depth) (length ts) (suc (length ts)) ts (omega arith) (omega arith)) ∙ items_turn depth (length ts) ts (after_end_array ts) (omega arith)

-- ---- the members of an object

with_member : (k : List ℕ) (j : json.Json) (d : Data) (old : Members) → of_json j ≡ Some d → (o : Option (json.Members × List Token))
    → converted (λ ms. of_members ms old) (parse_map (json.member k j) o) ≡ converted (λ ms. of_members ms (put k d old)) o
with_member k j d old e None = refl
with_member k j d old e (Some p) = rw e

without_member : (k : List ℕ) (j : json.Json) (old : Members) → of_json j ≡ None → (o : Option (json.Members × List Token)) → converted (λ ms. of_members ms old) (parse_map (json.member k j) o) ≡ None
without_member k j old e None = refl
without_member k j old e (Some p) = rw e

module _ (depth n : ℕ) (old : Members) where
  one_member : (k : List ℕ) (j : json.Json) (r : List Token) (x : Option Data) → of_json j ≡ x → length r ≤ n
      → converted (λ ms. of_members ms old) (parse_map (json.member k j) (json.members (value depth) n r)) ≡ member_by_turn depth old k (option_map (λ b. (b, r)) x)
  unfolding members_data
  one_member k j r None e h = without_member k j old e _
  one_member k j r (Some d) e h =
      with_member k j d old e _ ∙ ap (λ o. converted (λ ms. of_members ms (put k d old)) o) (members_fuel (value depth) (skip_value-shorter depth) n (length r) r h (omega arith))

  first_member : (k : List ℕ) (o : Option (json.Json × List Token)) → ((x : List Token) → left o ≡ Some x → length x ≤ n)
      → converted (λ ms. of_members ms old) (option_and_then (λ q. parse_map (json.member k q.0) (json.members (value depth) n q.1)) o) ≡ member_by_turn depth old k (converted of_json o)
  first_member k None h = refl
  first_member k (Some q) h = one_member k q.0 q.1 (of_json q.0) refl (h q.1 refl)

  members_turn : (e : Option (Option (List ℕ) × List Token)) → ((k : Option (List ℕ)) (x : List Token) → e ≡ Some (k, x) → length x ≤ n)
      → converted (λ ms. of_members ms old) (option_and_then (λ q. json.members_step (value depth) (json.members (value depth) n) q.0 q.1) e) ≡ members_by_turn depth old e
  unfolding value_data
  members_turn None h = refl
  members_turn (Some (None, rest)) h = refl
  members_turn (Some (Some k, rest)) h = first_member k (value depth rest) (λ x is. omega (arith, skip_value-shorter depth rest x is, h (Some k) rest refl))

pub members_is : (depth : ℕ) (old : Members) (ts : List Token) → members_data depth old ts ≡ members_by_turn depth old (read_key ts)
unfolding members_data json.members
members_is depth old ts =
    ap (converted (λ ms. of_members ms old)) (members_fuel (value depth) (skip_value-shorter depth) (length ts) (suc (length ts)) ts (omega arith) (omega arith))
    ∙ members_turn depth (length ts) old (read_key ts) (λ k x is. omega (arith, read_key-shorter ts k x is))

-- ---- the same, a case at a time

module _ (depth : ℕ) (ts r : List Token) where
  pub items_end : after_end_array ts ≡ Some r → items_data depth ts ≡ Some (no_items, r)
  items_end e = items_is depth ts ∙ ap (λ o. items_by_turn depth o (value_data depth ts)) e

  pub items_more : (d : Data) → after_end_array ts ≡ None → value_data depth ts ≡ Some (d, r) → items_data depth ts ≡ parse_map (item d) (items_data depth r)
  items_more d e f = items_is depth ts ∙ ap₂ (items_by_turn depth) e f

  pub members_end : (old : Members) → read_key ts ≡ Some (None, r) → members_data depth old ts ≡ Some (old, r)
  members_end old e = members_is depth old ts ∙ ap (members_by_turn depth old) e

  pub members_more : (old : Members) (k : List ℕ) (s : List Token) (d : Data) → read_key ts ≡ Some (Some k, s) → value_data depth s ≡ Some (d, r) → members_data depth old ts ≡ members_data depth (put k d old) r
  members_more old k s d e f = members_is depth old ts ∙ ap (members_by_turn depth old) e ∙ ap (member_by_turn depth old k) f

module _ (depth : ℕ) (ts : List Token) where
  pub items_refused : after_end_array ts ≡ None → value_data depth ts ≡ None → items_data depth ts ≡ None
  items_refused e f = items_is depth ts ∙ ap₂ (items_by_turn depth) e f

  pub members_no_key : (old : Members) → read_key ts ≡ None → members_data depth old ts ≡ None
  members_no_key old e = members_is depth old ts ∙ ap (members_by_turn depth old) e

  pub members_refused : (old : Members) (k : List ℕ) (s : List Token) → read_key ts ≡ Some (Some k, s) → value_data depth s ≡ None → members_data depth old ts ≡ None
  members_refused old k s e f = members_is depth old ts ∙ ap (members_by_turn depth old) e ∙ ap (member_by_turn depth old k) f

-- ---- where only the tokens that are left are told

pub some_of : {A : Type 0} (o : Option (A × List Token)) (r : List Token) → rest_of o ≡ Some r → (a : A) × (o ≡ Some (a, r))
some_of o r e = left_some o r e

pub rest_of-parse_map : {A B : Type 0} (f : A → B) (o : Option (A × List Token)) → rest_of (parse_map f o) ≡ rest_of o
rest_of-parse_map f None = refl
rest_of-parse_map f (Some p) = refl

-- ---- the whole text

last_or : (p : json.Json × List Token) (x : Option Data) → of_json p.0 ≡ x → option_and_then of_json (json.if_last p.0 p.1) ≡ whole_text (option_map (λ b. (b, p.1)) x)
last_or (j, []) None e = e
last_or (j, []) (Some d) e = e
last_or (j, t ∷ r) None e = refl
last_or (j, t ∷ r) (Some d) e = refl

whole_converted : (o : Option (json.Json × List Token)) → option_and_then of_json (option_and_then (λ p. json.if_last p.0 p.1) o) ≡ whole_text (converted of_json o)
whole_converted None = refl
whole_converted (Some p) = last_or p (of_json p.0) refl

pub read_is : (text : List ℕ) → read text ≡ whole_text (value_data 127 (tokens text))
unfolding value_data
read_is text = whole_converted (value 127 (tokens text))

-- ---- a value that opens an array or an object

module _ (depth : ℕ) (ts : List Token) where
  pub array_too_deep : depth ≡ 0 → value_data depth (Token.begin_array ∷ ts) ≡ None
  array_too_deep e = value_is depth (Token.begin_array ∷ ts) ∙ rw e refl

  pub object_too_deep : depth ≡ 0 → value_data depth (Token.begin_object ∷ ts) ≡ None
  object_too_deep e = value_is depth (Token.begin_object ∷ ts) ∙ rw e refl

  pub opens_array : 0 < depth → value_data depth (Token.begin_array ∷ ts) ≡ parse_map array (items_data (depth - 1) ts)
  opens_array h = value_is depth (Token.begin_array ∷ ts) ∙ rw (ne_eqb depth 0 (λ e. omega arith)) refl

  pub opens_object : 0 < depth → value_data depth (Token.begin_object ∷ ts) ≡ parse_map object (members_data (depth - 1) no_members ts)
  opens_object h = value_is depth (Token.begin_object ∷ ts) ∙ rw (ne_eqb depth 0 (λ e. omega arith)) refl

-- ---- a number, where only its range is told

number_rest : (ts : List Token) (o : Option Num) → is_some o ≡ true → rest_of (option_map {U = Data × List Token} (λ n. (number n, ts)) o) ≡ Some ts
number_rest ts None e = absurd (cc)
number_rest ts (Some n) e = refl

no_number : (ts : List Token) (o : Option Num) → is_some o ≡ false → option_map {U = Data × List Token} (λ n. (number n, ts)) o ≡ None
no_number ts None e = refl
no_number ts (Some n) e = absurd (cc)

module _ (depth : ℕ) (s : List ℕ) (ts : List Token) where
  pub in_range : is_some (number_of s) ≡ true → rest_of (value_data depth (Token.number s ∷ ts)) ≡ Some ts
  in_range e = ap rest_of (value_is depth (Token.number s ∷ ts)) ∙ number_rest ts (number_of s) e

  pub out_of_range : is_some (number_of s) ≡ false → value_data depth (Token.number s ∷ ts) ≡ None
  out_of_range e = value_is depth (Token.number s ∷ ts) ∙ no_number ts (number_of s) e

-- ---- the contract of a check

pub none_left : {A : Type 0} (o : Option (A × List Token)) → rest_of o ≡ None → o ≡ None
none_left o e = left_none o e

pub passes_as : {A B U E : Type 0} (f : A → B) (o : Option (B × List Token)) (p : Option (A × List Token)) → o ≡ parse_map f p → (r : Result U E) (rest : List Token)
    → MatchResult r (λ _. rest_of p ≡ Some rest) (λ _. p ≡ None) → MatchResult r (λ _. rest_of o ≡ Some rest) (λ _. o ≡ None)
passes_as f o p e (Ok u) rest h = ap rest_of e ∙ rest_of-parse_map f p ∙ h
passes_as f o p e (Err x) rest h = e ∙ ap (parse_map f) h
