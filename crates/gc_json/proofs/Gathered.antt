-- What the items of a list give, as a loop gathers it.
use Rattle.std.proofs.Common.{◌≡◌, ℕ, List, [], ◌∷◌, map, Result, Ok, Err, refl, ap, ◌∙◌}
use Rattle.std.specs.Cmp.Lexicographic.{nat_list_cmp_total}
use Rattle.std.specs.List.{fold}
use Rattle.gc_base.specs.Ascending.{with_item}
use Rattle.gc_base.specs.LiteralLaws.{literal_order_exact, literal_order_total, text_order_exact}
use Rattle.gc_base.specs.Literals.{literal_order, text_order}
use Rattle.gc_base.specs.declared.literal.Literal.{Literal}
use Rattle.serde_json.specs.Data.{Data, Items, no_items, item}
use Rattle.gc_json.specs.Gathering.{all_or_first, data_of}
use Rattle.gc_json.specs.LabelLists.{label_of, labels_of}
use Rattle.gc_json.specs.LiteralValues.{literal_of, values_among}
use Rattle.gc_json.specs.Reading.{◌>>=◌, or_refused}
use Rattle.gc_json.specs.declared.fault.Fault.{Fault}
use Rattle.gc_json.specs.declared.fault.Fault.TheVariants.{NotLiteral}
use Rattle.gc_json.proofs.SetsByTurns.{set_by_turns}

module _ {A B F : Type 0} (add : B → A → B) where
  later : (old : B) (x : A) (rs : Result (List A) F) → (rs >>= λ xs. Ok (fold add (add old x) xs)) ≡ ((rs >>= λ xs. Ok (x ∷ xs)) >>= λ xs. Ok (fold add old xs))
  later old x (Ok xs) = refl
  later old x (Err e) = refl

  one_more : (old : B) (r : Result A F) (rest : A → Result B F) (rs : Result (List A) F) → ((x : A) → rest x ≡ (rs >>= λ xs. Ok (fold add (add old x) xs)))
      → (r >>= rest) ≡ ((r >>= λ x. rs >>= λ xs. Ok (x ∷ xs)) >>= λ xs. Ok (fold add old xs))
  one_more old (Ok x) rest rs h = h x ∙ later old x rs
  one_more old (Err e) rest rs h = refl

-- the labels so far, with those of an array
abbrev pub labels_with : List (List ℕ) → Items → Result (List (List ℕ)) Fault
labels_with labels no_items = Ok labels
labels_with labels (item d ds) = label_of d >>= λ label. labels_with (with_item text_order labels label) ds

labels_all : (labels : List (List ℕ)) (ds : Items) → labels_with labels ds ≡ (all_or_first (map label_of (data_of ds)) >>= λ ls. Ok (fold (with_item text_order) labels ls))
labels_all labels no_items = refl
labels_all labels (item d ds) =
    one_more (with_item text_order) labels (label_of d) (λ label. labels_with (with_item text_order labels label) ds) (all_or_first (map label_of (data_of ds))) (λ label. labels_all (with_item text_order labels label) ds)

pub labels_gathered : (none : List (List ℕ)) (ds : Items) → none ≡ [] → labels_with none ds ≡ labels_of ds
labels_gathered none ds empty =
    ap (λ x. labels_with x ds) empty ∙ labels_all [] ds
    ∙ (λ i. all_or_first (map label_of (data_of ds)) >>= λ ls. Ok (set_by_turns text_order nat_list_cmp_total text_order_exact ls i))

-- the values so far, with those of an array of literals
abbrev pub values_with : List Literal → Items → Result (List Literal) Fault
values_with values no_items = Ok values
values_with values (item d ds) = or_refused NotLiteral (literal_of d) >>= λ l. values_with (with_item literal_order values l) ds

abbrev literal_in : Data → Result Literal Fault
literal_in d = or_refused NotLiteral (literal_of d)

values_all : (values : List Literal) (ds : Items) → values_with values ds ≡ (all_or_first (map literal_in (data_of ds)) >>= λ ls. Ok (fold (with_item literal_order) values ls))
values_all values no_items = refl
values_all values (item d ds) =
    one_more (with_item literal_order) values (literal_in d) (λ l. values_with (with_item literal_order values l) ds) (all_or_first (map literal_in (data_of ds))) (λ l. values_all (with_item literal_order values l) ds)

pub values_gathered : (none : List Literal) (ds : Items) → none ≡ [] → values_with none ds ≡ values_among (data_of ds)
values_gathered none ds empty =
    ap (λ x. values_with x ds) empty ∙ values_all [] ds
    ∙ (λ i. all_or_first (map literal_in (data_of ds)) >>= λ ls. Ok (set_by_turns literal_order literal_order_total literal_order_exact ls i))
