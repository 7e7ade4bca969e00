-- The members in order, a turn at a time, and the object that they make.
use Rattle.std.proofs.Common.{◌≡◌, ℕ, zero, suc, ◌-◌, ◌<◌, ◌≤◌, List, [], ◌∷◌, length, Option, Some, None, option_map, option_and_then, Bool, true, false, bytes_eq, if◌then◌else◌, refl, sym, subst, ap, ◌∙◌, true≢false, nat_le, arith}
use Rattle.std.specs.Prelude.{⊤}
use Rattle.std.specs.Option.{option_or}
use Rattle.std.proofs.lemmas.Bool.Decides.{nat_tests}
use Rattle.std.proofs.lemmas.Slice.Eq.{bytes_eq-Decides}
use Rattle.json.specs.Token.{Token}
use Rattle.json.specs.Json as json
use Rattle.json.specs.Json.{parse_map, read_key, value}
use Rattle.json.proofs.Grammar.{left, read_key-shorter, skip_value-shorter}
use Rattle.serde_json.specs.Data.{Num, number, Data, Items, array, Members, no_members, put, object}
use Rattle.serde_json.specs.Find.{get_member, as_object}
use Rattle.serde_json.specs.Read.{number_of, of_json, of_members, converted}
use Rattle.serde_json.proofs.Views.{get_member-put, get_member-put_other}
use Rattle.gc_json.specs.Tokens.{value_data, items_data, members_data, whole_text}
use Rattle.gc_json.proofs.ByToken.{data_by_token}
use Rattle.gc_json.specs.Entries.{Entries, of_entries, entries_data, puts, count_of, last_at, nth_at, object_entries}
use Rattle.gc_json.proofs.TokenTurns.{value_is, opens_object}
use Rattle.gc_json.proofs.Fuel.{members_fuel}

-- the members in order, by the key that may come
abbrev pub entry_by_turn : ℕ → List ℕ → Option (Data × List Token) → Option (Entries × List Token)
entry_by_turn depth key None = None
entry_by_turn depth key (Some p) = parse_map (λ es. (key, p.0) ∷ es) (entries_data depth p.1)

abbrev pub entries_by_turn : ℕ → Option (Option (List ℕ) × List Token) → Option (Entries × List Token)
entries_by_turn depth None = None
entries_by_turn depth (Some (None, rest)) = Some ([], rest)
entries_by_turn depth (Some (Some key, rest)) = entry_by_turn depth key (value_data depth rest)

twice : {A B : Type 0} (g : A → B) (r : List Token) (x : Option A) → option_map (λ b. (b, r)) (option_map g x) ≡ parse_map g (option_map (λ a. (a, r)) x)
twice g r None = refl
twice g r (Some a) = refl

abbrev adding : List ℕ → Data → Entries → Entries
adding k d es = (k, d) ∷ es

with_entry : (k : List ℕ) (j : json.Json) (d : Data) → of_json j ≡ Some d → (o : Option (json.Members × List Token)) → converted of_entries (parse_map (json.member k j) o) ≡ parse_map (adding k d) (converted of_entries o)
with_entry k j d e None = refl
with_entry k j d e (Some p) = rw e (twice (adding k d) p.1 (of_entries p.0))

without_entry : (k : List ℕ) (j : json.Json) → of_json j ≡ None → (o : Option (json.Members × List Token)) → converted of_entries (parse_map (json.member k j) o) ≡ None
without_entry k j e None = refl
without_entry k j e (Some p) = rw e

module _ (depth n : ℕ) where
  one_entry : (k : List ℕ) (j : json.Json) (r : List Token) (x : Option Data) → of_json j ≡ x → length r ≤ n
      → converted of_entries (parse_map (json.member k j) (json.members (value depth) n r)) ≡ entry_by_turn depth k (option_map (λ b. (b, r)) x)
  unfolding entries_data
  one_entry k j r None e h = without_entry k j e _
  one_entry k j r (Some d) e h =
      with_entry k j d e _ ∙ ap (λ o. parse_map (adding k d) (converted of_entries o)) (members_fuel (value depth) (skip_value-shorter depth) n (length r) r h (omega arith))

  first_entry : (k : List ℕ) (o : Option (json.Json × List Token)) → ((x : List Token) → left o ≡ Some x → length x ≤ n)
      → converted of_entries (option_and_then (λ q. parse_map (json.member k q.0) (json.members (value depth) n q.1)) o) ≡ entry_by_turn depth k (converted of_json o)
  first_entry k None h = refl
  first_entry k (Some q) h = one_entry k q.0 q.1 (of_json q.0) refl (h q.1 refl)

  entries_turn : (e : Option (Option (List ℕ) × List Token)) → ((k : Option (List ℕ)) (x : List Token) → e ≡ Some (k, x) → length x ≤ n)
      → converted of_entries (option_and_then (λ q. json.members_step (value depth) (json.members (value depth) n) q.0 q.1) e) ≡ entries_by_turn depth e
  unfolding value_data
  entries_turn None h = refl
  entries_turn (Some (None, rest)) h = refl
  entries_turn (Some (Some k, rest)) h = first_entry k (value depth rest) (λ x is. omega (arith, skip_value-shorter depth rest x is, h (Some k) rest refl))

pub entries_is : (depth : ℕ) (ts : List Token) → entries_data depth ts ≡ entries_by_turn depth (read_key ts)
unfolding entries_data json.members
entries_is depth ts =
    ap (converted of_entries) (members_fuel (value depth) (skip_value-shorter depth) (length ts) (suc (length ts)) ts (omega arith) (omega arith))
    ∙ entries_turn depth (length ts) (read_key ts) (λ k x is. omega (arith, read_key-shorter ts k x is))

module _ (depth : ℕ) (ts : List Token) where
  pub entries_end : (r : List Token) → read_key ts ≡ Some (None, r) → entries_data depth ts ≡ Some ([], r)
  entries_end r e = entries_is depth ts ∙ ap (entries_by_turn depth) e

  pub entries_more : (k : List ℕ) (s r : List Token) (d : Data) → read_key ts ≡ Some (Some k, s) → value_data depth s ≡ Some (d, r) → entries_data depth ts ≡ parse_map (λ es. (k, d) ∷ es) (entries_data depth r)
  entries_more k s r d e f = entries_is depth ts ∙ ap (entries_by_turn depth) e ∙ ap (entry_by_turn depth k) f

  pub entries_no_key : read_key ts ≡ None → entries_data depth ts ≡ None
  entries_no_key e = entries_is depth ts ∙ ap (entries_by_turn depth) e

  pub entries_refused : (k : List ℕ) (s : List Token) → read_key ts ≡ Some (Some k, s) → value_data depth s ≡ None → entries_data depth ts ≡ None
  entries_refused k s e f = entries_is depth ts ∙ ap (entries_by_turn depth) e ∙ ap (entry_by_turn depth k) f

-- ---- the object

added : (k : List ℕ) (d : Data) (found : Members) (o : Option Entries) → option_map (puts (put k d found)) o ≡ option_map (puts found) (option_map (adding k d) o)
added k d found None = refl
added k d found (Some es) = refl

more_entries : (k : List ℕ) (ms : json.Members) (found : Members) (o : Option Data) → ((f : Members) → of_members ms f ≡ option_map (puts f) (of_entries ms))
    → option_and_then (λ d. of_members ms (put k d found)) o ≡ option_map (puts found) (option_and_then (λ d. option_map (adding k d) (of_entries ms)) o)
more_entries k ms found None h = refl
more_entries k ms found (Some d) h = h (put k d found) ∙ added k d found (of_entries ms)

of_members-of_entries : (ms : json.Members) (found : Members) → of_members ms found ≡ option_map (puts found) (of_entries ms)
of_members-of_entries json.no_members found = refl
of_members-of_entries (json.member k j ms) found = more_entries k ms found (of_json j) (of_members-of_entries ms)

converted_entries : (found : Members) (o : Option (json.Members × List Token)) → converted (λ ms. of_members ms found) o ≡ parse_map (puts found) (converted of_entries o)
converted_entries found None = refl
converted_entries found (Some p) = ap (option_map (λ b. (b, p.1))) (of_members-of_entries p.0 found) ∙ twice (puts found) p.1 (of_entries p.0)

pub members_of_entries : (depth : ℕ) (found : Members) (ts : List Token) → members_data depth found ts ≡ parse_map (puts found) (entries_data depth ts)
unfolding members_data entries_data
members_of_entries depth found ts = converted_entries found (json.members (value depth) (length ts) ts)

-- ---- looking a key up

fewer : (m : ℕ) → suc m - 1 ≡ m
fewer m = omega arith

later_time : (m : ℕ) → nat_le (suc (suc m)) 1 ≡ false
later_time m = grind (arith, nat_tests)

module _ (k : List ℕ) where
  pub get_one : (found : Members) (l : List ℕ) (d : Data) (b : Bool) → bytes_eq l k ≡ b → get_member k (put l d found) ≡ (if b then Some d else get_member k found)
  get_one found l d true e = let same : l ≡ k = (bytes_eq-Decides l k).0 e in subst (λ x. get_member k (put x d found) ≡ Some d) (sym same) (get_member-put k d found)
  get_one found l d false e = get_member-put_other k l d found (λ same. true≢false (sym ((bytes_eq-Decides l k).1 (sym same)) ∙ e))

  or_none : (o : Option Data) → option_or o None ≡ o
  or_none None = refl
  or_none (Some d) = refl

  or_else : (o : Option Data) (b : Bool) (d : Data) (old : Option Data) → option_or o (if b then Some d else old) ≡ option_or (option_or o (if b then Some d else None)) old
  or_else (Some x) b d old = refl
  or_else None true d old = refl
  or_else None false d old = refl

  get_member-puts_among : (es : Entries) (found : Members) → get_member k (puts found es) ≡ option_or (last_at k es) (get_member k found)
  get_member-puts_among [] found = refl
  get_member-puts_among (e ∷ es) found =
      get_member-puts_among es (put e.0 e.1 found)
      ∙ ap (λ o. option_or (last_at k es) o) (get_one found e.0 e.1 (bytes_eq e.0 k) refl)
      ∙ or_else (last_at k es) (bytes_eq e.0 k) e.1 (get_member k found)

  pub get_member-puts : (es : Entries) → get_member k (puts no_members es) ≡ last_at k es
  get_member-puts es = get_member-puts_among es no_members ∙ or_none (last_at k es)

  none_counted_by : (e : List ℕ × Data) (es : Entries) (b : Bool) → (count_of k es ≡ 0 → last_at k es ≡ None) → (if b then suc (count_of k es) else count_of k es) ≡ 0
      → option_or (last_at k es) (if b then Some e.1 else None) ≡ None
  none_counted_by e es true later h = absurd (omega arith)
  none_counted_by e es false later h = ap (λ o. option_or o None) (later h)

  pub none_counted : (es : Entries) → count_of k es ≡ 0 → last_at k es ≡ None
  none_counted [] h = refl
  none_counted (e ∷ es) h = none_counted_by e es (bytes_eq e.0 k) (none_counted es) h

  or_some : (o : Option Data) (d : Data) (p : Option Data) → option_or (option_or o (Some d)) p ≡ option_or o (Some d)
  or_some (Some x) d p = refl
  or_some None d p = refl

  some_counted_by : (e : List ℕ × Data) (es : Entries) (p : Option Data) (b : Bool) → (0 < count_of k es → option_or (last_at k es) p ≡ last_at k es)
      → 0 < (if b then suc (count_of k es) else count_of k es)
      → option_or (option_or (last_at k es) (if b then Some e.1 else None)) p ≡ option_or (last_at k es) (if b then Some e.1 else None)
  some_counted_by e es p true later h = or_some (last_at k es) e.1 p
  some_counted_by e es p false later h = ap (λ o. option_or o p) (or_none (last_at k es)) ∙ later h ∙ sym (or_none (last_at k es))

  some_counted : (es : Entries) (p : Option Data) → 0 < count_of k es → option_or (last_at k es) p ≡ last_at k es
  some_counted [] p h = absurd (omega arith)
  some_counted (e ∷ es) p h = some_counted_by e es p (bytes_eq e.0 k) (some_counted es p) h

  last_time : (es : Entries) (d : Data) (c : ℕ) → count_of k es ≡ c → ((m : ℕ) → count_of k es ≡ m → 0 < m → nth_at k m es ≡ last_at k es)
      → (if nat_le (suc c) 1 then Some d else nth_at k (suc c - 1) es) ≡ option_or (last_at k es) (Some d)
  last_time es d zero is later = sym (ap (λ o. option_or o (Some d)) (none_counted es is))
  last_time es d (suc m) is later =
      let some : 0 < count_of k es = omega arith in
      rw (later_time m) (rw (fewer (suc m)) (later (suc m) is (omega arith) ∙ sym (some_counted es (Some d) some)))

  counted_by : (e : List ℕ × Data) (es : Entries) (n : ℕ) (b : Bool) → ((m : ℕ) → count_of k es ≡ m → 0 < m → nth_at k m es ≡ last_at k es)
      → (if b then suc (count_of k es) else count_of k es) ≡ n → 0 < n
      → (if b then (if nat_le n 1 then Some e.1 else nth_at k (n - 1) es) else nth_at k n es) ≡ option_or (last_at k es) (if b then Some e.1 else None)
  counted_by e es n false later h some = later n h some ∙ sym (or_none (last_at k es))
  counted_by e es n true later h some =
      subst (λ x. (if nat_le x 1 then Some e.1 else nth_at k (x - 1) es) ≡ option_or (last_at k es) (Some e.1)) h (last_time es e.1 (count_of k es) refl later)

  pub counted : (es : Entries) (n : ℕ) → count_of k es ≡ n → 0 < n → nth_at k n es ≡ last_at k es
  counted [] n h some = absurd (omega arith)
  counted (e ∷ es) n h some = counted_by e es n (bytes_eq e.0 k) (λ m is more. counted es m is more) h some

-- ---- the whole text

of_whole : (r : List Token) (found : Members) (o : Option (Entries × List Token)) → option_map as_object (whole_text (parse_map object (parse_map (puts found) o))) ≡ option_map (λ x. option_map (puts found) x) (option_map (λ es. Some es) (whole_text o))
of_whole r found None = refl
of_whole r found (Some (es, [])) = refl
of_whole r found (Some (es, t ∷ ts)) = refl

-- what was read is no object
abbrev NoObject : Option (Data × List Token) → Type 0
NoObject None = ⊤
NoObject (Some p) = as_object p.0 ≡ None

no_object : (o : Option (Data × List Token)) → NoObject o → option_map as_object (whole_text o) ≡ option_map (λ x. option_map (puts no_members) x) (option_map {U = Option Entries} (λ d. None) (whole_text o))
no_object None h = refl
no_object (Some (d, [])) h = ap (λ x. Some x) h
no_object (Some (d, t ∷ ts)) h = refl

an_array : (o : Option (Items × List Token)) → NoObject (parse_map array o)
an_array None = tt
an_array (Some p) = refl

a_number : (ts : List Token) (o : Option Num) → NoObject (option_map {U = Data × List Token} (λ n. (number n, ts)) o)
a_number ts None = tt
a_number ts (Some n) = refl

by_token : (ts : List Token) → NoObject (data_by_token 127 ts) → NoObject (value_data 127 ts)
by_token ts h = subst NoObject (sym (value_is 127 ts)) h

pub object_entries_is : (ts : List Token) → option_map as_object (whole_text (value_data 127 ts)) ≡ option_map (λ x. option_map (puts no_members) x) (object_entries ts)
object_entries_is [] = no_object _ (by_token [] tt)
object_entries_is (Token.begin_object ∷ ts) =
    ap (λ o. option_map as_object (whole_text o)) (opens_object 127 ts (omega arith) ∙ ap (parse_map object) (members_of_entries 126 no_members ts)) ∙ of_whole ts no_members (entries_data 126 ts)
object_entries_is (Token.end_object ∷ ts) = no_object _ (by_token (Token.end_object ∷ ts) tt)
object_entries_is (Token.begin_array ∷ ts) = no_object _ (by_token (Token.begin_array ∷ ts) (an_array (items_data 126 ts)))
object_entries_is (Token.end_array ∷ ts) = no_object _ (by_token (Token.end_array ∷ ts) tt)
object_entries_is (Token.key s ∷ ts) = no_object _ (by_token (Token.key s ∷ ts) tt)
object_entries_is (Token.string s ∷ ts) = no_object _ (by_token (Token.string s ∷ ts) refl)
object_entries_is (Token.number s ∷ ts) = no_object _ (by_token (Token.number s ∷ ts) (a_number ts (number_of s)))
object_entries_is (Token.boolean b ∷ ts) = no_object _ (by_token (Token.boolean b ∷ ts) refl)
object_entries_is (Token.null ∷ ts) = no_object _ (by_token (Token.null ∷ ts) refl)
object_entries_is (Token.bad ∷ ts) = no_object _ (by_token (Token.bad ∷ ts) tt)
