-- Lists in order that have the same items, each as often, are one list.
use Rattle.std.proofs.Common.{◌≡◌, ℕ, suc, ◌+◌, ◌<◌, ◌≤◌, false, List, [], ◌∷◌, length, get_or, refl, sym, ap, ap₂, ◌∙◌, arith}
use Rattle.std.proofs.lemmas.List.Sorted.{ranks_by, sorted_far, sum_by-IsPermutation}
use Rattle.std.proofs.lemmas.List.Sums.{sum_by-cons}
use Rattle.std.specs.Cmp.{IsTotalOrder}
use Rattle.std.specs.List.{AllByRecursion}
use Rattle.std.specs.List.Sorted.{IsPermutation, IsSorted}
use Rattle.std.specs.Ordering.{is_lt, ordering_reverse}
use Rattle.std.specs.Prelude.{⊤, sum_by}
use Rattle.std.specs.declared.cmp.Ordering.{Ordering}
use Rattle.std.specs.declared.cmp.Ordering.TheVariants.{Less, Equal, Greater}

from_places : {X : Type 0} (P : X → Type 0) (xs : List X) (d : X) → ((i : ℕ) → i < length xs → P (get_or xs i d)) → AllByRecursion P xs
from_places P [] d h = tt
from_places P (x ∷ xs) d h = (h 0 (omega arith), from_places P xs d (λ i less. h (suc i) (omega (arith, less))))

module _ {X : Type 0} (cmp : X → X → Ordering) (o : IsTotalOrder cmp) where
  -- no later item is less than an earlier one
  abbrev Rises : List X → Type 0
  Rises [] = ⊤
  Rises (x ∷ xs) = AllByRecursion (λ y. is_lt (cmp y x) ≡ false) xs × Rises xs

  rises : (xs : List X) → IsSorted cmp xs → Rises xs
  rises [] h = tt
  rises (x ∷ xs) h = (
    from_places (λ y. is_lt (cmp y x) ≡ false) xs x (λ i less. far 0 (suc i) x (omega arith) (omega (arith, less))),
    rises xs (λ k d a b. far (suc k) (suc (k + 1)) d (omega arith) (omega (arith, b))),
  )
    where
      far : (i j : ℕ) (d : X) → i ≤ j → j < length (x ∷ xs) → is_lt (cmp (get_or (x ∷ xs) j d) (get_or (x ∷ xs) i d)) ≡ false
      far = sorted_far (λ a b. is_lt (cmp a b)) (ranks_by o (λ y. y)) (x ∷ xs) h

  itself : (x : X) → cmp x x ≡ Equal
  itself x = by (cmp x x) refl
    where
      by : (r : Ordering) → cmp x x ≡ r → cmp x x ≡ Equal
      by Less is = absurd (cc (o.antisymm x x, is))
      by Equal is = is
      by Greater is = absurd (cc (o.antisymm x x, is))

  -- 1 at a tie
  abbrev one : Ordering → ℕ
  one Less = 0
  one Equal = 1
  one Greater = 0

  times : X → List X → ℕ
  times x ys = sum_by (λ y. one (cmp x y)) ys

  -- an item that is less than the first of some is none of them
  less_than_all : (x y z : X) → cmp x y ≡ Less → is_lt (cmp z y) ≡ false → cmp x z ≡ Less
  less_than_all x y z less later = by (cmp z y) refl later
    where
      by : (r : Ordering) → cmp z y ≡ r → is_lt r ≡ false → cmp x z ≡ Less
      by Less is h = absurd (cc)
      by Equal is h = o.antisymm x z ∙ (ap ordering_reverse (o.congr z y x is ∙ (o.antisymm y x ∙ ap ordering_reverse less)))
      by Greater is h = o.trans x y z less (o.antisymm y z ∙ ap ordering_reverse is)

  none_later : (x y : X) (ys : List X) → cmp x y ≡ Less → AllByRecursion (λ z. is_lt (cmp z y) ≡ false) ys → times x ys ≡ 0
  unfolding times
  none_later x y [] less h = refl
  none_later x y (z ∷ ys) less h =
      let first : one (cmp x z) ≡ 0 = ap one (less_than_all x y z less h.0) in
      omega (arith, sum_by-cons (λ w. one (cmp x w)) z ys, first, none_later x y ys less h.1)

  none_among : (x y : X) (ys : List X) → cmp x y ≡ Less → Rises (y ∷ ys) → times x (y ∷ ys) ≡ 0
  unfolding times
  none_among x y ys less up =
      let first : one (cmp x y) ≡ 0 = ap one less in
      omega (arith, sum_by-cons (λ w. one (cmp x w)) y ys, first, none_later x y ys less up.0)

  some_among : (x : X) (xs : List X) → 0 < times x (x ∷ xs)
  unfolding times
  some_among x xs =
      let first : one (cmp x x) ≡ 1 = ap one (itself x) in
      omega (arith, sum_by-cons (λ w. one (cmp x w)) x xs, first)

  -- items that tie are the same
  module _ (P : X → Type 0) (same : (x y : X) → P x → P y → cmp x y ≡ Equal → x ≡ y) where
    one_list : (xs ys : List X) → Rises xs → Rises ys → AllByRecursion P xs → AllByRecursion P ys → ((x : X) → times x xs ≡ times x ys) → xs ≡ ys
    unfolding times
    one_list [] [] up high p q often = refl
    one_list [] (y ∷ ys) up high p q often = absurd (omega (arith, often y, some_among y ys))
    one_list (x ∷ xs) [] up high p q often = absurd (omega (arith, often x, some_among x xs))
    one_list (x ∷ xs) (y ∷ ys) up high p q often = by (λ e rest. ap₂ (λ z zs. z ∷ zs) e (one_list xs ys up.1 high.1 p.1 q.1 rest)) (cmp x y) refl
      where
        left : x ≡ y → (z : X) → times z xs ≡ times z ys
        left e z =
            let first : one (cmp z x) ≡ one (cmp z y) = ap (λ w. one (cmp z w)) e in
            omega (arith, often z, sum_by-cons (λ w. one (cmp z w)) x xs, sum_by-cons (λ w. one (cmp z w)) y ys, first)

        by : (x ≡ y → ((z : X) → times z xs ≡ times z ys) → (x ∷ xs) ≡ (y ∷ ys)) → (r : Ordering) → cmp x y ≡ r → (x ∷ xs) ≡ (y ∷ ys)
        by rest Less is = absurd (omega (arith, often x, some_among x xs, none_among x y ys is high))
        by rest Equal is = let e = same x y p.0 q.0 is in rest e (left e)
        by rest Greater is = absurd (omega (arith, often y, some_among y ys, none_among y x xs (o.antisymm y x ∙ ap ordering_reverse is) up))

    pub sorted_once : (all xs ys : List X) → AllByRecursion P xs → AllByRecursion P ys → IsPermutation all xs → IsPermutation all ys → IsSorted cmp xs → IsSorted cmp ys → xs ≡ ys
    unfolding times
    sorted_once all xs ys p q first second up high =
        one_list xs ys (rises xs up) (rises ys high) p q
        (λ x. sum_by-IsPermutation (λ y. one (cmp x y)) all xs first ∙ sym (sum_by-IsPermutation (λ y. one (cmp x y)) all ys second))
