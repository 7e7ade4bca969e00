-- The elements of a list, added one after another.
use Rattle.std.proofs.Common.{◌≡◌, ℕ, zero, suc, ◌+◌, ◌<◌, List, [], ◌∷◌, Option, Some, None, option_map, Bool, true, false, Result, Ok, Err, refl, sym, ap, ◌∙◌, subst, true≢false, ne_eqb, arith}
use Rattle.std.specs.Prelude.{⊤, IfSome}
use Rattle.std.specs.Result.{IsErrAnd}
use Rattle.gc_ppg.specs.declared.shape.Kind.{Kind}
use Rattle.gc_spec.specs.PropertyGraph.{PropertyGraph}
use Rattle.json.specs.Json.{parse_map, after_end_array}
use Rattle.json.specs.Token.{Token}
use Rattle.serde_json.specs.Data.{Data, Items, no_items, item, array}
use Rattle.serde_json.specs.Events.{items_len}
use Rattle.serde_json.specs.Find.{as_array}
use Rattle.gc_json.specs.ElementValues.{ElementValues, element_of}
use Rattle.gc_json.specs.Entries.{Entries, entries_data, count_of, last_at, nth_at, object_entries}
use Rattle.gc_json.specs.FileElements.{Seen, add_element_of, add_values_of}
use Rattle.gc_json.specs.Finds.{Finds}
use Rattle.gc_json.specs.Frames.{place_of, len_at, is_zero, listed, items_or_none}
use Rattle.gc_json.specs.GraphFiles.{add_elements_of, located, part_of}
use Rattle.gc_json.specs.ListWalks.{GivesDue, AddsNext, list_key}
use Rattle.gc_json.specs.Reading.{◌>>=◌, Gives}
use Rattle.gc_json.specs.Tokens.{value_data, items_data, whole_text, begins_with, opens_array}
use Rattle.gc_json.specs.declared.fault.Failure.{Failure}
use Rattle.gc_json.specs.declared.fault.Failure.TheVariants.{Refused, Memory}
use Rattle.gc_json.specs.declared.frame.ListPlace.{ListPlace}
use Rattle.gc_json.specs.declared.refusal.GraphRefusal.{GraphRefusal}
use Rattle.gc_json.proofs.ByToken.{items_by_turn}
use Rattle.gc_json.proofs.EntryTurns.{counted, none_counted}
use Rattle.gc_json.proofs.Framing.{NoArray, no_array, next_item}
use Rattle.gc_json.proofs.Passing.{picked}
use Rattle.gc_json.proofs.TokenTurns as turns
use Rattle.gc_json.proofs.TokenTurns.{items_is, items_more, items_end, value_is}

-- the refusal of what is due, if anything is
abbrev Fails : Option (Result PropertyGraph GraphRefusal) → Failure GraphRefusal → Type 0
Fails due (Refused e) = IfSome due (λ r. r ≡ Err e)
Fails due Memory = ⊤

module _ {Y : Type 0} (s : Y → PropertyGraph) where
  given : (due : Option (Result PropertyGraph GraphRefusal)) (y : Y) → due ≡ Some (Ok (s y)) → GivesDue s due (Ok y)
  given due y is = subst (λ o. GivesDue s o (Ok y)) (sym is) refl

  failed : (due : Option (Result PropertyGraph GraphRefusal)) (e : Failure GraphRefusal) → Fails due e → GivesDue s due (Err e)
  failed None e h = tt
  failed (Some due) (Refused e) h = h
  failed (Some due) Memory h = tt

  failed_as : (due : Option (Result PropertyGraph GraphRefusal)) (e : Failure GraphRefusal) (r : Result Y (Failure GraphRefusal)) → IsErrAnd r (λ x. x ≡ e) → Fails due e → GivesDue s due r
  failed_as due e (Ok y) is h = absurd is
  failed_as due e (Err x) is h = failed due x (subst (Fails due) (sym is) h)

-- ---- a list whose count is not kept

pub uncounted : (g : PropertyGraph) (due : Option (Result PropertyGraph GraphRefusal)) (n : ℕ) (u : Unit {0}) → GivesDue {Y = ℕ} (λ m. g) due (Ok n) → GivesDue {Y = Unit {0}} (λ v. g) due (Ok u)
uncounted g None n u h = tt
uncounted g (Some d) n u h = h

failing : (g : PropertyGraph) (due : Option (Result PropertyGraph GraphRefusal)) (e : Failure GraphRefusal) → GivesDue {Y = ℕ} (λ m. g) due (Err e) → Fails due e
failing g None (Refused e) h = tt
failing g None Memory h = tt
failing g (Some d) (Refused e) h = h
failing g (Some d) Memory h = tt

pub uncounted_failure : (g : PropertyGraph) (due : Option (Result PropertyGraph GraphRefusal)) (e : Failure GraphRefusal) (r : Result (Unit {0}) (Failure GraphRefusal)) → IsErrAnd r (λ x. x ≡ e) → GivesDue {Y = ℕ} (λ m. g) due (Err e)
    → GivesDue {Y = Unit {0}} (λ v. g) due r
uncounted_failure g due e r is h = failed_as (λ v. g) due e r is (failing g due e h)

-- ---- one element after another

module _ (seen : Seen) (kind : Kind) where
  abbrev step : ℕ → PropertyGraph → Data → Result PropertyGraph GraphRefusal
  step i g d = located (record { part = part_of kind; index = i }) (add_element_of seen kind g d)

  one_done : (i : ℕ) (g now : PropertyGraph) (d : Data) (rest : List Token) (r : Result (Unit {0}) (Failure GraphRefusal)) → Gives {Y = Unit {0}} (λ u. now) (step i g d) r → AddsNext (Some (step i g d, rest)) r now rest
  one_done i g now d rest (Ok u) h = ap (λ x. Some (x, rest)) h
  one_done i g now d rest (Err (Refused e)) h = h
  one_done i g now d rest (Err Memory) h = tt

  -- the next element was read, and then added
  pub one_read : (i : ℕ) (g now : PropertyGraph) (e : ElementValues) (rest : List Token) (o : Option (Data × List Token)) (r : Result (Unit {0}) (Failure GraphRefusal)) → parse_map (element_of kind) o ≡ Some (e, rest)
      → Gives {Y = Unit {0}} (λ u. now) (located (record { part = part_of kind; index = i }) (add_values_of seen kind g e)) r → AddsNext (parse_map (step i g) o) r now rest
  one_read i g now e rest o r is h =
      let read = picked (element_of kind) o e rest is in
      subst (λ x. AddsNext (parse_map (step i g) x) r now rest) (sym read.1)
      (one_done i g now read.0 rest r (subst (λ x. Gives {Y = Unit {0}} (λ u. now) (located (record { part = part_of kind; index = i }) (add_values_of seen kind g x)) r) (sym read.2) h))

  abbrev all_of : ℕ → PropertyGraph → Option (Items × List Token) → Option (Result PropertyGraph GraphRefusal)
  all_of i g o = option_map (λ p. add_elements_of seen kind i g p.0) o

  one_added : (i : ℕ) (g more : PropertyGraph) (d : Data) (o : Option (Items × List Token)) → step i g d ≡ Ok more → all_of i g (parse_map (item d) o) ≡ all_of (i + 1) more o
  one_added i g more d None is = refl
  one_added i g more d (Some p) is = ap (λ r. Some (r >>= λ h. add_elements_of seen kind (i + 1) h p.0)) is

  pub next_added : (depth i j : ℕ) (g more : PropertyGraph) (ts t r : List Token) → t ≡ ts → after_end_array ts ≡ None → parse_map (step i g) (value_data depth t) ≡ Some (Ok more, r) → i + 1 ≡ j
      → all_of i g (items_data depth ts) ≡ all_of j more (items_data depth r)
  next_added depth i j g more ts t r same going added next =
      let read = picked (step i g) (value_data depth ts) (Ok more) r (subst (λ x. parse_map (step i g) (value_data depth x) ≡ Some (Ok more, r)) same added) in
      ap (all_of i g) (items_more depth ts r read.0 going read.1) ∙ one_added i g more read.0 (items_data depth r) read.2 ∙ ap (λ k. all_of k more (items_data depth r)) next

  -- one more element is counted
  pub next_read : (depth i j : ℕ) (g more : PropertyGraph) (ts t r : List Token) → t ≡ ts → after_end_array ts ≡ None → parse_map (step i g) (value_data depth t) ≡ Some (Ok more, r) → i + 1 ≡ j
      → parse_map (λ ds. i + items_len ds) (items_data depth ts) ≡ parse_map (λ ds. j + items_len ds) (items_data depth r)
  next_read depth i j g more ts t r same going added next =
      let read = picked (step i g) (value_data depth ts) (Ok more) r (subst (λ x. parse_map (step i g) (value_data depth x) ≡ Some (Ok more, r)) same added) in
      ap (parse_map (λ ds. i + items_len ds)) (items_more depth ts r read.0 going read.1) ∙ next_item i read.0 (items_data depth r) ∙ ap (λ n. parse_map (λ ds. n + items_len ds) (items_data depth r)) next

  none_more : (i : ℕ) (g : PropertyGraph) (d : Data) (e : GraphRefusal) (o : Option (Items × List Token)) → step i g d ≡ Err e → IfSome (all_of i g (parse_map (item d) o)) (λ r. r ≡ Err e)
  none_more i g d e None is = tt
  none_more i g d e (Some p) is = ap (λ r. r >>= λ h. add_elements_of seen kind (i + 1) h p.0) is

  refused_at : (depth i : ℕ) (g : PropertyGraph) (e : GraphRefusal) (v : Option (Data × List Token)) → IfSome (parse_map (step i g) v) (λ p. p.0 ≡ Err e) → IfSome (all_of i g (items_by_turn depth None v)) (λ r. r ≡ Err e)
  refused_at depth i g e None h = tt
  refused_at depth i g e (Some p) h = none_more i g p.0 e (items_data depth p.1) h

  fails_at : (depth i : ℕ) (g now : PropertyGraph) (e : Failure GraphRefusal) (ts rest : List Token) → after_end_array ts ≡ None → AddsNext (parse_map (step i g) (value_data depth ts)) (Err e) now rest
      → Fails (all_of i g (items_data depth ts)) e
  fails_at depth i g now (Refused e) ts rest going h =
      subst (λ o. IfSome (all_of i g o) (λ r. r ≡ Err e)) (sym (items_is depth ts ∙ ap (λ o. items_by_turn depth o (value_data depth ts)) going)) (refused_at depth i g e (value_data depth ts) h)
  fails_at depth i g now Memory ts rest going h = tt

  pub next_refused : {Y : Type 0} (s : Y → PropertyGraph) (depth i : ℕ) (g now : PropertyGraph) (e : Failure GraphRefusal) (ts t rest : List Token) (due : Option (Result PropertyGraph GraphRefusal)) (r : Result Y (Failure GraphRefusal))
      → due ≡ all_of i g (items_data depth ts) → t ≡ ts → after_end_array ts ≡ None → IsErrAnd r (λ x. x ≡ e) → AddsNext (parse_map (step i g) (value_data depth t)) (Err e) now rest → GivesDue s due r
  next_refused s depth i g now e ts t rest due r so_far same going is h =
      failed_as s due e r is (subst (λ o. Fails o e) (sym so_far) (fails_at depth i g now e ts rest going (subst (λ x. AddsNext (parse_map (step i g) (value_data depth x)) (Err e) now rest) same h)))

  pub all_added : {Y : Type 0} (s : Y → PropertyGraph) (y : Y) (depth i : ℕ) (g : PropertyGraph) (ts r : List Token) (due : Option (Result PropertyGraph GraphRefusal)) → due ≡ all_of i g (items_data depth ts) → after_end_array ts ≡ Some r → g ≡ s y
      → GivesDue s due (Ok y)
  all_added s y depth i g ts r due so_far end is = given s due y (so_far ∙ ap (all_of i g) (items_end depth ts r end) ∙ ap (λ h. Some (Ok h)) is)

  -- ---- the value of a list

  abbrev items_of_value : PropertyGraph → Option (Data × List Token) → Option (Result PropertyGraph GraphRefusal)
  items_of_value g o = option_map (λ p. add_elements_of seen kind 0 g (listed (Some p.0))) o

  none_listed : {Y : Type 0} (s : Y → PropertyGraph) (y : Y) (g : PropertyGraph) (o : Option (Data × List Token)) → NoArray o → g ≡ s y → GivesDue s (items_of_value g o) (Ok y)
  none_listed s y g None h is = tt
  none_listed s y g (Some p) h is = ap (λ x. add_elements_of seen kind 0 g (items_or_none x)) h ∙ ap (λ x. Ok x) is

  pub no_list : {Y : Type 0} (s : Y → PropertyGraph) (y : Y) (g : PropertyGraph) (ts : List Token) → begins_with opens_array ts ≡ false → g ≡ s y → GivesDue s (items_of_value g (value_data 126 ts)) (Ok y)
  no_list s y g [] e is = subst (λ o. GivesDue s (items_of_value g o) (Ok y)) (sym (value_is 126 [])) tt
  no_list s y g (t ∷ ts) e is = none_listed s y g (value_data 126 (t ∷ ts)) (subst NoArray (sym (value_is 126 (t ∷ ts))) (no_array 126 t ts e)) is

  array_listed : (g : PropertyGraph) (o : Option (Items × List Token)) → items_of_value g (parse_map array o) ≡ all_of 0 g o
  array_listed g None = refl
  array_listed g (Some p) = refl

  pub a_list : {Y : Type 0} (s : Y → PropertyGraph) (r : Result Y (Failure GraphRefusal)) (g : PropertyGraph) (all ts : List Token) → all ≡ Token.begin_array ∷ ts → GivesDue s (all_of 0 g (items_data 125 ts)) r
      → GivesDue s (items_of_value g (value_data 126 all)) r
  a_list s r g all ts is h =
      subst (λ o. GivesDue s o r) (sym (ap (λ x. items_of_value g (value_data 126 x)) is ∙ ap (items_of_value g) (turns.opens_array 126 ts (omega arith)) ∙ array_listed g (items_data 125 ts))) h

-- ---- the list at a key

alone : (o : Option (Entries × List Token)) (es : Entries) → option_map (λ x. Some x) (whole_text o) ≡ Some (Some es) → o ≡ Some (es, [])
alone None es e = absurd (cc)
alone (Some (fs, [])) es e = let same : fs ≡ es = grind arith in ap (λ x. Some (x, [])) same
alone (Some (fs, t ∷ ts)) es e = absurd (cc)

pub entries_of : (all ts : List Token) (es : Entries) → all ≡ Token.begin_object ∷ ts → object_entries all ≡ Some (Some es) → entries_data 126 ts ≡ Some (es, [])
entries_of all ts es is h = alone (entries_data 126 ts) es (sym (ap object_entries is) ∙ h)

there : (due : Option Data) (v : Option (Data × List Token)) → Finds (Some due) (Ok true) (option_map (λ p. p.0) v) → (d : Data) × (r : List Token) × (v ≡ Some (d, r)) × (due ≡ Some d)
there due None h = absurd h
there due (Some (d, r)) h = (d, r, refl, h)

module _ (key k : List ℕ) (times : ℕ) (all ts here : List Token) (es : Entries) (named : k ≡ key) (is : all ≡ Token.begin_object ∷ ts) (whole : object_entries all ≡ Some (Some es)) (count : times ≡ count_of key es) (some : 0 < times) where
  due_at : option_map (λ p. nth_at k times p.0) (entries_data 126 ts) ≡ Some (last_at key es)
  due_at = ap (option_map (λ p. nth_at k times p.0)) (entries_of all ts es is whole) ∙ ap (λ x. Some (nth_at x times es)) named ∙ ap (λ o. Some o) (counted key es times (sym count) some)

  pub found_there : {Y : Type 0} (seen : Seen) (kind : Kind) (s : Y → PropertyGraph) (g : PropertyGraph) (r : Result Y (Failure GraphRefusal)) (b : Bool) → b ≡ true → Finds (option_map (λ p. nth_at k times p.0) (entries_data 126 ts)) (Ok b) (option_map (λ p. p.0) (value_data 126 here))
      → GivesDue s (option_map (λ p. add_elements_of seen kind 0 g (listed (Some p.0))) (value_data 126 here)) r → Gives s (add_elements_of seen kind 0 g (listed (last_at key es))) r
  found_there seen kind s g r b yes_it_is h gives =
      let at = there (last_at key es) (value_data 126 here)
      (subst (λ o. Finds o (Ok true) (option_map (λ p. p.0) (value_data 126 here))) due_at (subst (λ x. Finds (option_map (λ p. nth_at k times p.0) (entries_data 126 ts)) (Ok x) (option_map (λ p. p.0) (value_data 126 here))) yes_it_is h)) in
      subst (λ o. Gives s (add_elements_of seen kind 0 g (listed o)) r) (sym at.3) (subst (λ v. GivesDue s (option_map (λ p. add_elements_of seen kind 0 g (listed (Some p.0))) v) r) at.2 gives)

  pub not_there : (seen : Seen) (kind : Kind) (g : PropertyGraph) (b : Bool) → b ≡ false → Finds (option_map (λ p. nth_at k times p.0) (entries_data 126 ts)) (Ok b) (option_map (λ p. p.0) (value_data 126 here))
      → add_elements_of seen kind 0 g (listed (last_at key es)) ≡ Ok g
  not_there seen kind g b is_not h =
      ap (λ o. add_elements_of seen kind 0 g (listed o))
      (subst (λ o. Finds o (Ok false) (option_map (λ p. p.0) (value_data 126 here))) due_at (subst (λ x. Finds (option_map (λ p. nth_at k times p.0) (entries_data 126 ts)) (Ok x) (option_map (λ p. p.0) (value_data 126 here))) is_not h))

-- ---- where a list is empty

no_items_of : (ds : Items) → is_zero (Some (items_len ds)) ≡ true → ds ≡ no_items
no_items_of no_items e = refl
no_items_of (item d ds) e = absurd (true≢false (sym e ∙ ne_eqb (suc (items_len ds)) 0 (λ z. omega arith)))

none_of : (o : Option Items) → is_zero (option_map items_len o) ≡ true → items_or_none o ≡ no_items
none_of None e = refl
none_of (Some ds) e = no_items_of ds e

pub empty_list : (o : Option Data) → is_zero (len_at o) ≡ true → listed o ≡ no_items
empty_list None e = refl
empty_list (Some d) e = none_of (as_array d) e

comes_by : (key : List ℕ) (es : Entries) (n : ℕ) → n ≡ count_of key es → is_zero (len_at (last_at key es)) ≡ false → 0 < n
comes_by key es zero is h = absurd (true≢false (sym (ap (λ o. is_zero (len_at o)) (none_counted key es (sym is))) ∙ h))
comes_by key es (suc n) is h = omega arith

pub empty_place : (seen : Seen) (kind : Kind) (g : PropertyGraph) (es : Entries) (place : ListPlace) → place ≡ place_of (list_key kind) es → is_zero place.len ≡ true → add_elements_of seen kind 0 g (listed (last_at (list_key kind) es)) ≡ Ok g
empty_place seen kind g es place is h = ap (add_elements_of seen kind 0 g) (empty_list (last_at (list_key kind) es) (ap (λ p. is_zero p.len) (sym is) ∙ h))

pub comes : (kind : Kind) (es : Entries) (place : ListPlace) → place ≡ place_of (list_key kind) es → is_zero place.len ≡ false → (place.times ≡ count_of (list_key kind) es) × (0 < place.times)
comes kind es place is h =
    let times = ap (λ p. p.times) is in
    (times, comes_by (list_key kind) es place.times times (ap (λ p. is_zero p.len) (sym is) ∙ h))
