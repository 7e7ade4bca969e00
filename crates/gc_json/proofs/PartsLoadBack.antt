-- The data of labels, values, properties and walks give these again.
use Rattle.std.proofs.Common.{◌≡◌, ℕ, ◌^◌, pos, negsuc, true, List, [], ◌∷◌, ◌++◌, map, Some, Ok, Result, refl, sym, ap, ◌∙◌, subst, arith, append_assoc, append-nil, nat_le, nat_lt}
use Rattle.std.proofs.lemmas.Bool.Decides.{nat_tests}
use Rattle.std.specs.List.{AllByRecursion, filter}
use Rattle.gc_base.specs.Ascending.{Ascends, with_item}
use Rattle.gc_base.specs.Literals.{IsLiteral, literal_order, text_order}
use Rattle.gc_base.specs.PropertyLists.{AreProperties, IsLabelSet, IsProperty}
use Rattle.gc_base.specs.Words.{is_word}
use Rattle.gc_base.specs.declared.literal.Literal.{Literal}
use Rattle.gc_base.specs.declared.literal.Literal.TheVariants.{Truth, Number, Text}
use Rattle.gc_base.specs.declared.properties.Property.{Property}
use Rattle.gc_base.specs.declared.walk.Step.{Step}
use Rattle.gc_spec.specs.PropertyGraph.{IsId}
use Rattle.serde_json.specs.Data.{string}
use Rattle.serde_json.specs.View.{items_of}
use Rattle.gc_json.specs.CanonicalText.{id_data, literal_data, values_data, property_members, step_items}
use Rattle.gc_json.specs.ElementParts.{ElementParts, described}
use Rattle.gc_json.specs.Gathering.{all_or_first, pairs_of}
use Rattle.gc_json.specs.JsonValues.{id_of, largest_id}
use Rattle.gc_json.specs.LabelLists.{label_of, labels_of}
use Rattle.gc_json.specs.LiteralValues.{literal_of, values_of}
use Rattle.gc_json.specs.PropertyMembers.{are_names, has_values, name_of, property_of, properties_of}
use Rattle.gc_json.specs.Reading.{◌>>=◌, or_refused}
use Rattle.gc_json.specs.WalkItems.{are_numbers, id_on_walk, step_of}
use Rattle.gc_json.specs.declared.fault.Fault.TheVariants.{NotLiteral, BadWalk}
use Rattle.gc_json.proofs.Gathered.{labels_with, labels_gathered, values_with, values_gathered}
use Rattle.gc_json.proofs.GatheredSteps.{steps_with}
use Rattle.gc_json.proofs.SortedSets.{with_item-last}

-- what is read is passed on
pub bound : {A B F : Type 0} (r : Result A F) (x : A) (f : A → Result B F) → r ≡ Ok x → (r >>= f) ≡ f x
bound r x f e = ap (λ q. q >>= f) e

-- ---- labels

label_back : (label : List ℕ) → is_word label ≡ true → label_of (string label) ≡ Ok label
label_back label h = rw h refl

pub labels_back : (done rest : List (List ℕ)) → Ascends text_order (done ++ rest) → AllByRecursion (λ label. is_word label ≡ true) rest
    → labels_with done (items_of (map string rest)) ≡ Ok (done ++ rest)
labels_back done [] up words = ap Ok (sym (append-nil done))
labels_back done (l ∷ rest) up words =
    let ds = items_of (map string rest) in
    let whole : (done ++ l ∷ []) ++ rest ≡ done ++ l ∷ rest = append_assoc done (l ∷ []) rest in
    bound (label_of (string l)) l (λ label. labels_with (with_item text_order done label) ds) (label_back l words.0)
    ∙ ap (λ ls. labels_with ls ds) (with_item-last text_order done l rest up)
    ∙ labels_back (done ++ l ∷ []) rest (subst (Ascends text_order) (sym whole) up) words.1
    ∙ ap Ok whole

-- ---- values

literal_back : (l : Literal) → IsLiteral l → literal_of (literal_data l) ≡ Some l
literal_back (Truth t) h = refl
literal_back (Number (pos n)) h = let k : nat_lt n (2 ^ 63) ≡ true = grind (arith, nat_tests) in rw k refl
literal_back (Number (negsuc n)) h = refl
literal_back (Text t) h = refl

pub values_back : (done rest : List Literal) → Ascends literal_order (done ++ rest) → AllByRecursion IsLiteral rest
    → values_with done (items_of (map literal_data rest)) ≡ Ok (done ++ rest)
values_back done [] up each = ap Ok (sym (append-nil done))
values_back done (l ∷ rest) up each =
    let ds = items_of (map literal_data rest) in
    let whole : (done ++ l ∷ []) ++ rest ≡ done ++ l ∷ rest = append_assoc done (l ∷ []) rest in
    bound (or_refused NotLiteral (literal_of (literal_data l))) l (λ x. values_with (with_item literal_order done x) ds) (ap (or_refused NotLiteral) (literal_back l each.0))
    ∙ ap (λ ls. values_with ls ds) (with_item-last literal_order done l rest up)
    ∙ values_back (done ++ l ∷ []) rest (subst (Ascends literal_order) (sym whole) up) each.1
    ∙ ap Ok whole

-- ---- properties

names_back : (ps : List Property) → AllByRecursion IsProperty ps → are_names (property_members ps) ≡ true
names_back [] h = refl
names_back (p ∷ ps) h = rw h.0.name (names_back ps h.1)

property_back : (p : Property) → IsProperty p → property_of p.name (values_data p.values) ≡ Ok p
property_back p h =
    let named : name_of p.name ≡ Ok p.name = rw h.name refl in
    let read : values_of (values_data p.values) ≡ Ok p.values = sym (values_gathered [] (items_of (map literal_data p.values)) refl) ∙ values_back [] p.values h.values.ascends h.values.literals in
    bound (name_of p.name) p.name (λ name. values_of (values_data p.values) >>= λ values. Ok (record { name = name; values = values })) named
    ∙ bound (values_of (values_data p.values)) p.values (λ values. Ok (record { name = p.name; values = values })) read

members_back : (ps : List Property) → AllByRecursion IsProperty ps → all_or_first (map (λ m. property_of m.0 m.1) (pairs_of (property_members ps))) ≡ Ok ps
members_back [] h = refl
members_back (p ∷ ps) h =
    let more = all_or_first (map (λ m. property_of m.0 m.1) (pairs_of (property_members ps))) in
    bound (property_of p.name (values_data p.values)) p (λ x. more >>= λ xs. Ok (x ∷ xs)) (property_back p h.0)
    ∙ bound more ps (λ xs. Ok (p ∷ xs)) (members_back ps h.1)

all_have_values : (ps : List Property) → AllByRecursion IsProperty ps → filter has_values ps ≡ ps
all_have_values [] h = refl
all_have_values (p ∷ ps) h = rw h.0.some (ap (λ qs. p ∷ qs) (all_have_values ps h.1))

properties_back : (ps : List Property) → AreProperties ps → properties_of (property_members ps) ≡ Ok ps
properties_back ps h =
    rw (names_back ps h.each)
    (bound (all_or_first (map (λ m. property_of m.0 m.1) (pairs_of (property_members ps)))) ps (λ qs. Ok (filter has_values qs)) (members_back ps h.each)
    ∙ ap Ok (all_have_values ps h.each))

-- ---- both

abbrev pub parts : ℕ → List (List ℕ) → List Property → ElementParts
parts id labels ps = record { id = id; labels = items_of (map string labels); properties = property_members ps }

pub described_back : (id : ℕ) (labels : List (List ℕ)) (ps : List Property) → IsLabelSet labels → AreProperties ps → described (parts id labels ps) ≡ Ok (labels, ps)
described_back id labels ps l p =
    bound (labels_of (items_of (map string labels))) labels (λ ls. properties_of (property_members ps) >>= λ qs. Ok (ls, qs)) (sym (labels_gathered [] (items_of (map string labels)) refl) ∙ labels_back [] labels l.ascends l.words)
    ∙ bound (properties_of (property_members ps)) ps (λ qs. Ok (labels, qs)) (properties_back ps p)

-- ---- walks

pub id_back : (id : ℕ) → IsId id → id_of id ≡ Some id
id_back id h = let k : nat_le id largest_id ≡ true = grind (arith, nat_tests) in rw k refl

pub on_walk_back : (id : ℕ) → IsId id → id_on_walk (id_data id) ≡ Ok id
on_walk_back id h = ap (or_refused BadWalk) (id_back id h)

abbrev pub StepIsBounded : Step → Type 0
StepIsBounded step = IsId step.edge × IsId step.node

step_back : (step : Step) → StepIsBounded step → step_of (id_data step.edge) (id_data step.node) ≡ Ok step
step_back step h =
    bound (id_on_walk (id_data step.edge)) step.edge (λ edge. id_on_walk (id_data step.node) >>= λ node. Ok (record { edge = edge; node = node })) (on_walk_back step.edge h.0)
    ∙ bound (id_on_walk (id_data step.node)) step.node (λ node. Ok (record { edge = step.edge; node = node })) (on_walk_back step.node h.1)

pub steps_back : (done rest : List Step) → AllByRecursion StepIsBounded rest → steps_with done (step_items rest) ≡ Ok (done ++ rest)
steps_back done [] h = ap Ok (sym (append-nil done))
steps_back done (step ∷ rest) h =
    bound (step_of (id_data step.edge) (id_data step.node)) step (λ s. steps_with (done ++ s ∷ []) (step_items rest)) (step_back step h.0)
    ∙ steps_back (done ++ step ∷ []) rest h.1
    ∙ ap Ok (append_assoc done (step ∷ []) rest)

pub numbers_back : (steps : List Step) → are_numbers (step_items steps) ≡ true
numbers_back [] = refl
numbers_back (step ∷ steps) = numbers_back steps
