-- The properties of an object, as a loop gathers them: its keys ascend, so each goes to the end.
use Rattle.std.proofs.Common.{◌≡◌, ℕ, Bool, true, false, not, cond, List, [], ◌∷◌, ◌++◌, map, String, Global, string_bytes, Result, Ok, Err, Less, if◌then◌else◌, refl, sym, ap, ◌∙◌, append_assoc, append-nil}
use Rattle.std.proofs.lemmas.List.Elements.{filter-append}
use Rattle.std.specs.Prelude.{⊤}
use Rattle.std.specs.List.{AllByRecursion, filter}
use Rattle.std.specs.List.Sorted.{IsStrictlySortedBy}
use Rattle.std.specs.Map.{keys_of}
use Rattle.std.specs.String.{string_cmp}
use Rattle.gc_base.specs.Ascending.{with_item, without_item}
use Rattle.gc_base.specs.PropertyLists.{is_nil, property_order, put}
use Rattle.gc_base.specs.Words.{is_word}
use Rattle.gc_base.specs.declared.literal.Literal.{Literal}
use Rattle.gc_base.specs.declared.properties.Property.{Property}
use Rattle.gc_base.proofs.Search.{AllByRecursion-weaker}
use Rattle.gc_base.proofs.SetLaws.{AllByRecursion-append, AllByRecursion-filter}
use Rattle.serde_json.specs.Data.{Data, Members, no_members, member}
use Rattle.serde_json.specs.View.{members_view}
use Rattle.serde_json.specs.declared.value.Value.{Value}
use Rattle.gc_json.specs.Gathering.{all_or_first, pairs_of}
use Rattle.gc_json.specs.LiteralValues.{values_of}
use Rattle.gc_json.specs.PropertyMembers.{has_values, property_of, properties_among}
use Rattle.gc_json.specs.Reading.{◌>>=◌}
use Rattle.gc_json.specs.declared.fault.Fault.{Fault}
use Rattle.gc_json.specs.declared.fault.Fault.TheVariants.{BadName}
use Rattle.gc_json.proofs.ReadsBack.{IsBelow}
use Rattle.gc_json.proofs.SortedSets.{with_item-above}

-- the properties so far, with those of an object
abbrev pub properties_with : List Property → Members → Result (List Property) Fault
properties_with ps no_members = Ok ps
properties_with ps (member key d ms) = property_of key d >>= λ p. properties_with (put ps p) ms

-- each key is below the later ones
abbrev KeysAscend : Members → Type 0
KeysAscend no_members = ⊤
KeysAscend (member key d ms) = IsBelow key ms × KeysAscend ms

-- each name is below each key
abbrev AreBelow : List Property → Members → Type 0
AreBelow ps ms = AllByRecursion (λ p. IsBelow p.name ms) ps

-- ---- a property that is above those so far

all_others : (ps : List Property) (p : Property) → AllByRecursion (λ q. property_order q p ≡ Less) ps → without_item property_order ps p ≡ ps
all_others [] p h = refl
all_others (q ∷ ps) p h = rw h.0 (ap (λ qs. q ∷ qs) (all_others ps p h.1))

put_above : (ps : List Property) (p : Property) → AllByRecursion (λ q. property_order q p ≡ Less) ps → put ps p ≡ ps ++ filter has_values (p ∷ [])
put_above ps p h =
    elim (is_nil p.values) as (λ b. (if b then without_item property_order ps p else with_item property_order ps p) ≡ ps ++ cond (not b) (p ∷ []) []) [
      | true ↦ all_others ps p h ∙ sym (append-nil ps)
      | false ↦ with_item-above property_order ps p h
    ]

-- ---- the next member

abbrev kept : List Property → List Property → List Property
kept ps qs = ps ++ filter has_values qs

abbrev then_kept : List Property → Result (List Property) Fault → Result (List Property) Fault
then_kept ps r = r >>= λ qs. Ok (kept ps qs)

in_front : (ps : List Property) (p : Property) (r : Result (List Property) Fault) → then_kept (kept ps (p ∷ [])) r ≡ then_kept ps (r >>= λ qs. Ok (p ∷ qs))
in_front ps p (Ok qs) =
    ap Ok
    (append_assoc ps (filter has_values (p ∷ [])) (filter has_values qs)
    ∙ ap (λ xs. ps ++ xs) (sym (filter-append has_values (p ∷ []) qs)))
in_front ps p (Err e) = refl

abbrev named : List ℕ → Bool → Result (List Literal) Fault → Result Property Fault
named key b r = (if b then Ok key else Err BadName) >>= λ name. r >>= λ values. Ok (record { name = name; values = values })

one_more : (ps : List Property) (key : List ℕ) (b : Bool) (r : Result (List Literal) Fault)
    → (rest : Property → Result (List Property) Fault) (more : Result (List Property) Fault)
    → ((values : List Literal) → rest (record { name = key; values = values }) ≡ then_kept ps (more >>= λ qs. Ok (record { name = key; values = values } ∷ qs)))
    → (named key b r >>= rest) ≡ then_kept ps (named key b r >>= λ p. more >>= λ qs. Ok (p ∷ qs))
one_more ps key true (Ok values) rest more h = h values
one_more ps key true (Err e) rest more h = refl
one_more ps key false r rest more h = refl

abbrev property_in : List ℕ × Data → Result Property Fault
property_in m = property_of m.0 m.1

properties_all : (ps : List Property) (ms : Members) → AreBelow ps ms → KeysAscend ms
    → properties_with ps ms ≡ then_kept ps (all_or_first (map property_in (pairs_of ms)))
properties_all ps no_members below up = ap Ok (sym (append-nil ps))
properties_all ps (member key d ms) below up =
    let more = all_or_first (map property_in (pairs_of ms)) in
    one_more ps key (is_word key) (values_of d) (λ p. properties_with (put ps p) ms) more λ values.
    let p : Property = record { name = key; values = values } in
    let above : AllByRecursion (λ q. property_order q p ≡ Less) ps =
    AllByRecursion-weaker (λ q. IsBelow q.name (member key d ms)) (λ q. property_order q p ≡ Less) (λ q h. h.0) ps below in
    let before : AreBelow ps ms = AllByRecursion-weaker (λ q. IsBelow q.name (member key d ms)) (λ q. IsBelow q.name ms) (λ q h. h.1) ps below in
    let all_before : AreBelow (kept ps (p ∷ [])) ms =
    AllByRecursion-append (λ q. IsBelow q.name ms) ps (filter has_values (p ∷ [])) before
    (AllByRecursion-filter (λ q. IsBelow q.name ms) has_values (p ∷ []) (up.0, tt)) in
    ap (λ qs. properties_with qs ms) (put_above ps p above) ∙ properties_all (kept ps (p ∷ [])) ms all_before up.1 ∙ in_front ps p more

from_none : (r : Result (List Property) Fault) → then_kept [] r ≡ (r >>= λ qs. Ok (filter has_values qs))
from_none (Ok qs) = refl
from_none (Err e) = refl

-- ---- the keys of a map ascend

abbrev Entry : Type 0
Entry = String Global × Value

key_below : (key : String Global) (es : List Entry) → AllByRecursion (λ k. string_cmp key k ≡ Less) (keys_of es) → IsBelow (string_bytes key) (members_view es)
key_below key [] h = tt
key_below key (e ∷ es) h = (h.0, key_below key es h.1)

keys_ascend : (es : List Entry) → IsStrictlySortedBy string_cmp (keys_of es) → KeysAscend (members_view es)
unfolding IsStrictlySortedBy
keys_ascend [] h = tt
keys_ascend (e ∷ es) h = (key_below e.0 es h.0, keys_ascend es h.1)

pub properties_gathered : (none : List Property) (es : List Entry) → none ≡ [] → IsStrictlySortedBy string_cmp (keys_of es)
    → properties_with none (members_view es) ≡ properties_among (members_view es)
properties_gathered none es empty up =
    ap (λ x. properties_with x (members_view es)) empty
    ∙ properties_all [] (members_view es) tt (keys_ascend es up)
    ∙ from_none (all_or_first (map property_in (pairs_of (members_view es))))
