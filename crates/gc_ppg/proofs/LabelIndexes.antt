-- What an index of labels gains by a label.
use Rattle.std.proofs.Common.{◌≡◌, ℕ, suc, ◌+◌, ◌<◌, Bool, true, false, ◌||◌, List, [], ◌∷◌, ◌++◌, length, drop, get_or, append-nil, nat_eq, refl, sym, ap, ◌∙◌, arith}
use Rattle.std.specs.declared.cmp.Ordering.{Ordering}
use Rattle.std.specs.declared.cmp.Ordering.TheVariants.{Less, Equal, Greater}
use Rattle.std.specs.Ordering.{is_eq, ordering_reverse}
use Rattle.std.specs.Cmp.Lexicographic.{pointwise, texts_ties, nat_list_cmp_total}
use Rattle.std.specs.List.{AllByRecursion}
use Rattle.std.proofs.Math.Seq.{drop-cons}
use Rattle.gc_base.specs.Ascending.{Ascends, has}
use Rattle.gc_base.specs.Literals.{text_order}
use Rattle.gc_ppg.specs.LabelPlaces.{place_if}

-- a list from one of its items on
pub drop_item : {X : Type 0} (xs : List X) (i : ℕ) (x : X) → i < length xs → x ≡ get_or xs i x → drop i xs ≡ x ∷ drop (i + 1) xs
drop_item xs i x within read =
    let next : suc i ≡ i + 1 = omega arith in
    drop-cons xs i x within ∙ (λ j. sym read j ∷ drop (next j) xs)

is_equal : (o : Ordering) → is_eq o ≡ true → o ≡ Equal
is_equal Less h = cc
is_equal Equal h = refl
is_equal Greater h = cc

-- the labels after one differ from it
later_differ : (x label : List ℕ) (xs : List (List ℕ)) → AllByRecursion (λ y. text_order x y ≡ Less) xs → text_order x label ≡ Equal → has text_order xs label ≡ false
later_differ x label [] low tie = refl
later_differ x label (y ∷ xs) low tie =
    let above : text_order y label ≡ Greater = nat_list_cmp_total.antisymm y label ∙ ap ordering_reverse (sym (nat_list_cmp_total.congr x label y tie) ∙ low.0) in
    rw above (later_differ x label xs low.1 tie)

by_test : (b c : Bool) (place : ℕ) (old now whole : List ℕ) → (b ≡ true → c ≡ false) → now ≡ old ++ place_if b place → old ++ place_if (b || c) place ≡ whole → now ++ place_if c place ≡ whole
by_test true c place old now whole once gained all = ap (λ d. now ++ place_if d place) (once refl) ∙ (append-nil now ∙ (gained ∙ all))
by_test false c place old now whole once gained all = ap (λ l. l ++ place_if c place) (gained ∙ append-nil old) ∙ all

pub label_gained : (x label : List ℕ) (xs : List (List ℕ)) (place : ℕ) (old now whole : List ℕ) → Ascends text_order (x ∷ xs)
    → now ≡ old ++ place_if (pointwise nat_eq x label) place → old ++ place_if (has text_order (x ∷ xs) label) place ≡ whole → now ++ place_if (has text_order xs label) place ≡ whole
label_gained x label xs place old now whole up gained all =
    by_test (is_eq (text_order x label)) (has text_order xs label) place old now whole (λ e. later_differ x label xs up.0 (is_equal (text_order x label) e))
    (gained ∙ ap (λ b. old ++ place_if b place) (texts_ties x label)) all
