-- A whole file, by the entries of its object and by its frame.
use Rattle.std.proofs.Common.{◌≡◌, ℕ, ◌+◌, ◌-◌, ◌^◌, ◌<◌, ◌&&◌, min, List, [], ◌∷◌, codes, Option, Some, None, option_map, Bool, true, false, Result, Ok, Err, if◌then◌else◌, nat_le, refl, sym, ap, ◌∙◌, subst, arith}
use Rattle.std.proofs.lemmas.Bool.Decides.{nat_tests}
use Rattle.std.specs.Result.{IsErrAnd}
use Rattle.std.specs.Str.{is_utf8}
use Rattle.gc_ppg.specs.declared.shape.Kind.TheVariants as kind
use Rattle.gc_spec.specs.PropertyGraph.{PropertyGraph, empty_graph}
use Rattle.json.specs.Lex.{tokens}
use Rattle.serde_json.specs.Data.{Data, null, boolean, number, string, array, object, Items, Members, no_members, put}
use Rattle.serde_json.specs.Events.{items_len}
use Rattle.serde_json.specs.Find.{as_array, as_object}
use Rattle.gc_json.specs.Entries.{Entries, puts, last_at, object_entries}
use Rattle.gc_json.specs.FileElements.{Seen}
use Rattle.gc_json.specs.Frames.{all_known, has_version_1, len_at, total_of, listed, items_or_none, entry_lists, frame_of, frame_count, text_frame}
use Rattle.gc_json.specs.GraphFiles.{FileLists, file_keys, lists_of, located, whole, most_elements, add_elements_of, graph_of_data, graph_of_few, graph_of_lists, text_graph, file_graph}
use Rattle.gc_json.specs.JsonValues.{has_only, is_key_among, items_in}
use Rattle.gc_json.specs.Reading.{◌>>=◌, Gives, or_refused}
use Rattle.gc_json.specs.Tokens.{whole_text, value_data}
use Rattle.gc_json.specs.declared.fault.Failure.{Failure}
use Rattle.gc_json.specs.declared.fault.Failure.TheVariants.{Refused, Memory}
use Rattle.gc_json.specs.declared.fault.Fault.{Fault}
use Rattle.gc_json.specs.declared.fault.Fault.TheVariants as fault
use Rattle.gc_json.specs.declared.frame.Frame.{Frame}
use Rattle.gc_json.specs.declared.refusal.GraphRefusal.{GraphRefusal}
use Rattle.gc_json.specs.declared.refusal.GraphRefusal.TheVariants.{NotJson, WrongShape, TooMany}
use Rattle.gc_json.proofs.ElementTurns.{has_only-put}
use Rattle.gc_json.proofs.EntryTurns.{get_member-puts, object_entries_is}
use Rattle.gc_json.proofs.TokenTurns.{value_is, read_is}

pub no_token : text_frame (object_entries []) ≡ Err NotJson
no_token = ap (λ o. text_frame (option_map {U = Option Entries} (λ d. None) (whole_text o))) (value_is 127 [])

-- ---- the keys

moved : (a b c : Bool) → a && (b && c) ≡ (b && a) && c
moved true true c = refl
moved true false c = refl
moved false true c = refl
moved false false c = refl

and_true : (b : Bool) → (b && true) ≡ b
and_true true = refl
and_true false = refl

has_only-puts : (es : Entries) (found : Members) → has_only file_keys (puts found es) ≡ (all_known es && has_only file_keys found)
has_only-puts [] found = refl
has_only-puts (e ∷ es) found =
    has_only-puts es (put e.0 e.1 found) ∙ ap (λ b. all_known es && b) (has_only-put file_keys e.0 e.1 found) ∙ moved (all_known es) (is_key_among file_keys e.0) (has_only file_keys found)

-- ---- the lists

abbrev lists_in : Option Data → Option Data → Option Data → Result FileLists Fault
lists_in n e p = items_in n >>= λ nodes. items_in e >>= λ edges. items_in p >>= λ paths. Ok (record { nodes = nodes; edges = edges; paths = paths })

abbrev lists_if : Bool → Option Data → Option Data → Option Data → Result FileLists Fault
lists_if b n e p = if b then lists_in n e p else Err fault.WrongShape

abbrev at : List ℕ → Entries → Option Data
at k es = last_at k es

abbrev entries_lists : Entries → Result FileLists Fault
entries_lists es = lists_if (all_known es && has_version_1 (at (codes "gcore") es)) (at (codes "nodes") es) (at (codes "edges") es) (at (codes "paths") es)

lists_of_entries : (es : Entries) → lists_of (object (puts no_members es)) ≡ entries_lists es
lists_of_entries es =
    rw (
      has_only-puts es no_members,
      and_true (all_known es),
      get_member-puts (codes "gcore") es,
      get_member-puts (codes "nodes") es,
      get_member-puts (codes "edges") es,
      get_member-puts (codes "paths") es,
    ) refl

none_of : (o : Option Items) → option_map items_len o ≡ None → ◌≡◌ {A = Result Items Fault} (or_refused fault.WrongShape o) (Err fault.WrongShape)
none_of None e = refl
none_of (Some ds) e = absurd (cc)

no_array : (o : Option Data) → len_at o ≡ None → items_in o ≡ Err fault.WrongShape
no_array None e = absurd (cc)
no_array (Some d) e = none_of (as_array d) e

some_of : (o : Option Items) (n : ℕ) → option_map items_len o ≡ Some n → (◌≡◌ {A = Result Items Fault} (or_refused fault.WrongShape o) (Ok (items_or_none o))) × (items_len (items_or_none o) ≡ n)
some_of None n e = absurd (cc)
some_of (Some ds) n e = (refl, cc)

an_array : (o : Option Data) (n : ℕ) → len_at o ≡ Some n → (items_in o ≡ Ok (listed o)) × (items_len (listed o) ≡ n)
an_array None n e = (refl, cc)
an_array (Some d) n e = some_of (as_array d) n e

none_total : (n e p : Option Data) (x y z : Option ℕ) → len_at n ≡ x → len_at e ≡ y → len_at p ≡ z → total_of x y z ≡ None → lists_in n e p ≡ Err fault.WrongShape
none_total n e p None y z f g h none = rw (no_array n f) refl
none_total n e p (Some x) None z f g h none = rw ((an_array n x f).0, no_array e g) refl
none_total n e p (Some x) (Some y) None f g h none = rw ((an_array n x f).0, (an_array e y g).0, no_array p h) refl
none_total n e p (Some x) (Some y) (Some z) f g h none = absurd (cc)

abbrev lists_made : Option Data → Option Data → Option Data → FileLists
lists_made n e p = record { nodes = listed n; edges = listed e; paths = listed p }

abbrev total : FileLists → ℕ
total l = items_len l.nodes + items_len l.edges + items_len l.paths

same_sum : (a b c x y z t : ℕ) → a ≡ x → b ≡ y → c ≡ z → ◌≡◌ {A = Option ℕ} (Some (min (2 ^ 64 - 1) (x + y + z))) (Some t) → t ≡ min (2 ^ 64 - 1) (a + b + c)
same_sum a b c x y z t f g h is = rw (f, g, h) (cc)

some_total : (n e p : Option Data) (x y z : Option ℕ) (t : ℕ) → len_at n ≡ x → len_at e ≡ y → len_at p ≡ z → total_of x y z ≡ Some t
    → (lists_in n e p ≡ Ok (lists_made n e p)) × (t ≡ min (2 ^ 64 - 1) (total (lists_made n e p)))
some_total n e p None y z t f g h is = absurd (cc)
some_total n e p (Some x) None z t f g h is = absurd (cc)
some_total n e p (Some x) (Some y) None t f g h is = absurd (cc)
some_total n e p (Some x) (Some y) (Some z) t f g h is =
    let a = an_array n x f in
    let b = an_array e y g in
    let c = an_array p z h in
    (rw (a.0, b.0, c.0) refl, same_sum _ _ _ x y z t a.1 b.1 c.1 is)

abbrev count_if : Bool → Option Data → Option Data → Option Data → Option ℕ
count_if b n e p = if b then total_of (len_at n) (len_at e) (len_at p) else None

no_count : (b : Bool) (n e p : Option Data) → count_if b n e p ≡ None → lists_if b n e p ≡ Err fault.WrongShape
no_count false n e p h = refl
no_count true n e p h = none_total n e p _ _ _ refl refl refl h

a_count : (b : Bool) (n e p : Option Data) (t : ℕ) → count_if b n e p ≡ Some t → (lists_if b n e p ≡ Ok (lists_made n e p)) × (t ≡ min (2 ^ 64 - 1) (total (lists_made n e p)))
a_count false n e p t h = absurd (cc)
a_count true n e p t h = some_total n e p _ _ _ t refl refl refl h

-- ---- the graph of an object with this frame

few_or_many : (seen : Seen) (l : FileLists) (b : Bool) → nat_le (total l) most_elements ≡ b → graph_of_few seen l ≡ (if b then graph_of_lists seen l else Err TooMany)
few_or_many seen l b is = rw is refl

module _ (seen : Seen) (es : Entries) (o : Option ℕ) (count : o ≡ frame_count (frame_of es)) where
  known : Bool
  known = all_known es && has_version_1 (at (codes "gcore") es)

  pub not_a_file : o ≡ None → graph_of_data seen (object (puts no_members es)) ≡ Err (WrongShape whole)
  not_a_file none =
      ap (λ r. located whole r >>= graph_of_few seen)
      (lists_of_entries es ∙ no_count (all_known es && has_version_1 (at (codes "gcore") es)) (at (codes "nodes") es) (at (codes "edges") es) (at (codes "paths") es) (sym count ∙ none))

  a_file : (t : ℕ) → o ≡ Some t → (graph_of_data seen (object (puts no_members es)) ≡ graph_of_few seen (entry_lists es)) × (t ≡ min (2 ^ 64 - 1) (total (entry_lists es)))
  a_file t is =
      let found = a_count (all_known es && has_version_1 (at (codes "gcore") es)) (at (codes "nodes") es) (at (codes "edges") es) (at (codes "paths") es) t (sym count ∙ is) in
      (ap (λ r. located whole r >>= graph_of_few seen) (lists_of_entries es ∙ found.0), found.1)

  pub too_many : (t : ℕ) → o ≡ Some t → 1000000 < t → graph_of_data seen (object (puts no_members es)) ≡ Err TooMany
  too_many t is many =
      let file = a_file t is in
      let more : nat_le (total (entry_lists es)) most_elements ≡ false = grind (arith, nat_tests, file.1, many) in
      file.0 ∙ few_or_many seen (entry_lists es) false more

  pub few : (t : ℕ) → o ≡ Some t → (1000000 < t → ⊥) → graph_of_data seen (object (puts no_members es)) ≡ graph_of_lists seen (entry_lists es)
  few t is not_many =
      let file = a_file t is in
      let less : nat_le (total (entry_lists es)) most_elements ≡ true = grind (arith, nat_tests, file.1, not_many) in
      file.0 ∙ few_or_many seen (entry_lists es) true less

-- ---- a text

module _ (seen : Seen) where
  abbrev of_members : Option Members → Result PropertyGraph GraphRefusal
  of_members None = Err (WrongShape whole)
  of_members (Some ms) = graph_of_data seen (object ms)

  by_object : (d : Data) → graph_of_data seen d ≡ of_members (as_object d)
  by_object null = refl
  by_object (boolean b) = refl
  by_object (number n) = refl
  by_object (string s) = refl
  by_object (array ds) = refl
  by_object (object ms) = refl

  abbrev of_text : Option (Option Members) → Result PropertyGraph GraphRefusal
  of_text None = Err NotJson
  of_text (Some o) = of_members o

  from_data : (o : Option Data) → (or_refused NotJson o >>= graph_of_data seen) ≡ of_text (option_map as_object o)
  from_data None = refl
  from_data (Some d) = by_object d

  abbrev pub of_entries : Option (Option Entries) → Result PropertyGraph GraphRefusal
  of_entries None = Err NotJson
  of_entries (Some None) = Err (WrongShape whole)
  of_entries (Some (Some es)) = graph_of_data seen (object (puts no_members es))

  from_entries : (t : Option (Option Entries)) → of_text (option_map (λ x. option_map (puts no_members) x) t) ≡ of_entries t
  from_entries None = refl
  from_entries (Some None) = refl
  from_entries (Some (Some es)) = refl

  pub text_by_entries : (text : List ℕ) → text_graph seen text ≡ of_entries (object_entries (tokens text))
  text_by_entries text =
      ap (λ o. or_refused NotJson o >>= graph_of_data seen) (read_is text) ∙ from_data (whole_text (value_data 127 (tokens text))) ∙ ap of_text (object_entries_is (tokens text)) ∙ from_entries (object_entries (tokens text))

  module _ {Y : Type 0} (s : Y → PropertyGraph) where
    refused : (t : Option (Option Entries)) (e : Failure GraphRefusal) → Gives {Y = Frame} (λ f. f) (text_frame t) (Err e) → Gives s (of_entries t) (Err e)
    refused t Memory h = tt
    refused None (Refused e) h = cc
    refused (Some None) (Refused e) h = cc
    refused (Some (Some es)) (Refused e) h = absurd (cc)

    refused_as : (t : Option (Option Entries)) (e : Failure GraphRefusal) (r : Result Y (Failure GraphRefusal)) → IsErrAnd r (λ x. x ≡ e) → Gives {Y = Frame} (λ f. f) (text_frame t) (Err e) → Gives s (of_entries t) r
    refused_as t e (Ok y) is h = absurd is
    refused_as t e (Err x) is h = refused t x (subst (λ z. Gives {Y = Frame} (λ f. f) (text_frame t) (Err z)) (sym is) h)

    pub no_frame : (text : List ℕ) (e : Failure GraphRefusal) (r : Result Y (Failure GraphRefusal)) → IsErrAnd r (λ x. x ≡ e) → Gives {Y = Frame} (λ f. f) (text_frame (object_entries (tokens text))) (Err e) → Gives s (text_graph seen text) r
    no_frame text e r is h = subst (λ x. Gives s x r) (sym (text_by_entries text)) (refused_as (object_entries (tokens text)) e r is h)

    framed : (t : Option (Option Entries)) (f : Frame) (r : Result Y (Failure GraphRefusal)) → text_frame t ≡ Ok f → ((es : Entries) → t ≡ Some (Some es) → f ≡ frame_of es → Gives s (graph_of_data seen (object (puts no_members es))) r) → Gives s (of_entries t) r
    framed None f r is h = absurd (cc)
    framed (Some None) f r is h = absurd (cc)
    framed (Some (Some es)) f r is h = h es refl (cc)

    pub a_frame : (text : List ℕ) (f : Frame) (r : Result Y (Failure GraphRefusal)) → text_frame (object_entries (tokens text)) ≡ Ok f
        → ((es : Entries) → object_entries (tokens text) ≡ Some (Some es) → f ≡ frame_of es → Gives s (graph_of_data seen (object (puts no_members es))) r) → Gives s (text_graph seen text) r
    a_frame text f r is h = subst (λ x. Gives s x r) (sym (text_by_entries text)) (framed (object_entries (tokens text)) f r is h)

  -- ---- bytes

  pub of_bytes : (bytes : List ℕ) (b : Bool) → is_utf8 bytes ≡ b → file_graph seen bytes ≡ (if b then text_graph seen bytes else Err NotJson)
  of_bytes bytes true is = rw is refl
  of_bytes bytes false is = rw is refl

  -- ---- lists

  module _ {Y Z : Type 0} (s : Y → PropertyGraph) (u : Z → PropertyGraph) (l : FileLists) (a b : PropertyGraph) where
    last_refused : (e : Failure GraphRefusal) (r : Result Y (Failure GraphRefusal)) → IsErrAnd r (λ x. x ≡ e) → add_elements_of seen kind.Node 0 empty_graph l.nodes ≡ Ok a → add_elements_of seen kind.Edge 0 a l.edges ≡ Ok b
        → Gives u (add_elements_of seen kind.Path 0 b l.paths) (Err e) → Gives s (graph_of_lists seen l) r
    last_refused e (Ok y) is first second h = absurd is
    last_refused (Refused e) (Err Memory) is first second h = tt
    last_refused Memory (Err Memory) is first second h = tt
    last_refused Memory (Err (Refused x)) is first second h = absurd (cc)
    last_refused (Refused e) (Err (Refused x)) is first second h = rw (first, second) (h ∙ cc)

    pub last_failed : (start : PropertyGraph) (e : Failure GraphRefusal) (r : Result Y (Failure GraphRefusal)) → start ≡ empty_graph → IsErrAnd r (λ x. x ≡ e) → add_elements_of seen kind.Node 0 start l.nodes ≡ Ok a
        → add_elements_of seen kind.Edge 0 a l.edges ≡ Ok b → Gives u (add_elements_of seen kind.Path 0 b l.paths) (Err e) → Gives s (graph_of_lists seen l) r
    last_failed start e r empty is first second h = last_refused e r is (ap (λ g. add_elements_of seen kind.Node 0 g l.nodes) (sym empty) ∙ first) second h
