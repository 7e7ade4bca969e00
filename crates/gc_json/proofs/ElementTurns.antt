-- The values of an element, a member at a time.
use Rattle.std.proofs.Common.{◌≡◌, ℕ, ◌-◌, ◌<◌, ◌==◌, ◌&&◌, List, ◌∷◌, codes, Option, Some, None, option_map, Bool, true, false, Ordering, Less, Equal, Greater, bytes_eq, if◌then◌else◌, nat_cmp, is_eq, refl, sym, ap, ap₂, ◌∙◌, subst, arith}
use Rattle.std.proofs.lemmas.Map.Text.{is_eq-slice_cmp}
use Rattle.std.proofs.lemmas.Slice.Eq.{bytes_eq-Decides}
use Rattle.std.specs.Cmp.Lexicographic.{slice_cmp}
use Rattle.std.specs.Ordering.{match_ordering}
use Rattle.std.specs.Prelude.{⊤}
use Rattle.gc_ppg.specs.declared.shape.Kind.{Kind}
use Rattle.json.specs.Json.{parse_map}
use Rattle.json.specs.Token.{Token}
use Rattle.serde_json.specs.Data.{Num, number, Data, Items, array, Members, no_members, member, object, put}
use Rattle.serde_json.specs.Find.{as_object}
use Rattle.serde_json.specs.Read.{number_of}
use Rattle.gc_json.specs.ElementValues.{ElementValues, keys_of, no_values, values_at, values_if, element_of, values_after}
use Rattle.gc_json.specs.JsonValues.{has_only, is_key_among}
use Rattle.gc_json.specs.Tokens.{value_data, items_data, members_data, rest_of, opens_object}
use Rattle.gc_json.proofs.ByToken.{data_by_token}
use Rattle.gc_json.proofs.EntryTurns.{get_one}
use Rattle.gc_json.proofs.TokenTurns as turns
use Rattle.gc_json.proofs.TokenTurns.{value_is}

-- ---- the keys

swap : (a b c : Bool) → a && (b && c) ≡ b && (a && c)
swap true b c = refl
swap false true c = refl
swap false false c = refl

again : (a c : Bool) → a && c ≡ a && (a && c)
again true c = refl
again false c = refl

module _ (keys : List (List ℕ)) where
  known_at : (k l : List ℕ) (d e : Data) (ms : Members) (o : Ordering) → slice_cmp nat_cmp k l ≡ o → has_only keys (put k d ms) ≡ (is_key_among keys k && has_only keys ms)
      → has_only keys (match_ordering o (member k d (member l e ms)) (member l d ms) (member l e (put k d ms))) ≡ (is_key_among keys k && (is_key_among keys l && has_only keys ms))
  known_at k l d e ms Less is later = refl
  known_at k l d e ms Equal is later =
      let same : k ≡ l = (bytes_eq-Decides k l).0 (sym (is_eq-slice_cmp k l) ∙ ap is_eq is) in
      again (is_key_among keys l) (has_only keys ms) ∙ ap (λ x. is_key_among keys x && (is_key_among keys l && has_only keys ms)) (sym same)
  known_at k l d e ms Greater is later = ap (λ b. is_key_among keys l && b) later ∙ swap (is_key_among keys l) (is_key_among keys k) (has_only keys ms)

  pub has_only-put : (k : List ℕ) (d : Data) (ms : Members) → has_only keys (put k d ms) ≡ (is_key_among keys k && has_only keys ms)
  has_only-put k d no_members = refl
  has_only-put k d (member l e ms) = known_at k l d e ms (slice_cmp nat_cmp k l) refl (has_only-put k d ms)

-- ---- one more member

made_of : (a b c d e f : Option Data) (known : Bool) → ElementValues
made_of a b c d e f known = record { id = a; from = b; to = c; labels = d; properties = e; walk = f; is_known = known }

same_values : (a b c d e f p q r s t u : Option Data) (v w : Bool) → a ≡ p → b ≡ q → c ≡ r → d ≡ s → e ≡ t → f ≡ u → v ≡ w → made_of a b c d e f v ≡ made_of p q r s t u w
same_values a b c d e f p q r s t u v w h1 h2 h3 h4 h5 h6 h7 = cc

pub values_put : (kind : Kind) (k : List ℕ) (d : Data) (found : Members) → values_at kind (put k d found) ≡ values_after kind (values_at kind found) k d
unfolding made_of
values_put kind k d found =
    let got = λ (key : List ℕ). get_one key found k d (bytes_eq k key) refl in
    same_values _ _ _ _ _ _ _ _ _ _ _ _ _ _ (got (codes "id")) (got (codes "from")) (got (codes "to")) (got (codes "labels")) (got (codes "properties")) (got (codes "walk")) (has_only-put (keys_of kind) k d found)

-- ---- the next value

object_values : (kind : Kind) (o : Option (Members × List Token)) → parse_map (element_of kind) (parse_map object o) ≡ parse_map (values_at kind) o
object_values kind None = refl
object_values kind (Some p) = refl

pub an_object_opens : (t : Token) → opens_object t ≡ true → t ≡ Token.begin_object
an_object_opens Token.begin_object e = refl
an_object_opens Token.end_object e = absurd (cc)
an_object_opens Token.begin_array e = absurd (cc)
an_object_opens Token.end_array e = absurd (cc)
an_object_opens (Token.key s) e = absurd (cc)
an_object_opens (Token.string s) e = absurd (cc)
an_object_opens (Token.number s) e = absurd (cc)
an_object_opens (Token.boolean b) e = absurd (cc)
an_object_opens Token.null e = absurd (cc)
an_object_opens Token.bad e = absurd (cc)

pub of_object : (kind : Kind) (depth : ℕ) (all : List Token) (t : Token) (ts : List Token) → 0 < depth → all ≡ t ∷ ts → opens_object t ≡ true
    → parse_map (element_of kind) (value_data depth all) ≡ parse_map (values_at kind) (members_data (depth - 1) no_members ts)
of_object kind depth all t ts some is opens =
    let same : all ≡ Token.begin_object ∷ ts = is ∙ ap (λ x. x ∷ ts) (an_object_opens t opens) in
    ap (parse_map (element_of kind)) (ap (value_data depth) same ∙ turns.opens_object depth ts some) ∙ object_values kind (members_data (depth - 1) no_members ts)

-- what was read is no object
abbrev NoObject : Option (Data × List Token) → Type 0
NoObject None = ⊤
NoObject (Some p) = as_object p.0 ≡ None

an_array : (b : Bool) (o : Option (Items × List Token)) → NoObject (if b then None else parse_map array o)
an_array true o = tt
an_array false None = tt
an_array false (Some p) = refl

a_number : (ts : List Token) (o : Option Num) → NoObject (option_map {U = Data × List Token} (λ n. (number n, ts)) o)
a_number ts None = tt
a_number ts (Some n) = refl

other : {P : Type 0} → true ≡ false → P
other e = absurd (cc)

no_object : (depth : ℕ) (t : Token) (ts : List Token) → opens_object t ≡ false → NoObject (data_by_token depth (t ∷ ts))
no_object depth Token.begin_object ts e = other e
no_object depth Token.end_object ts e = tt
no_object depth Token.begin_array ts e = an_array (depth == 0) (items_data (depth - 1) ts)
no_object depth Token.end_array ts e = tt
no_object depth (Token.key s) ts e = tt
no_object depth (Token.string s) ts e = refl
no_object depth (Token.number s) ts e = a_number ts (number_of s)
no_object depth (Token.boolean b) ts e = refl
no_object depth Token.null ts e = refl
no_object depth Token.bad ts e = tt

without_values : (kind : Kind) (o : Option (Data × List Token)) (r : List Token) → NoObject o → rest_of o ≡ Some r → parse_map (element_of kind) o ≡ Some (no_values false, r)
without_values kind None r h e = absurd (cc)
without_values kind (Some (d, s)) r h e = let same : s ≡ r = grind arith in ap₂ (λ x y. Some (values_if kind x, y)) h same

pub of_other : (kind : Kind) (depth : ℕ) (all : List Token) (t : Token) (ts r : List Token) → all ≡ t ∷ ts → opens_object t ≡ false → rest_of (value_data depth (t ∷ ts)) ≡ Some r
    → parse_map (element_of kind) (value_data depth all) ≡ Some (no_values false, r)
of_other kind depth all t ts r is e h =
    ap (λ x. parse_map (element_of kind) (value_data depth x)) is
    ∙ without_values kind (value_data depth (t ∷ ts)) r (subst NoObject (sym (value_is depth (t ∷ ts))) (no_object depth t ts e)) h
