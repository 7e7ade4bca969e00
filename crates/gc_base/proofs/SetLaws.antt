-- What stays true of an ascending list when an item goes in or comes out.
use Rattle.std.proofs.Common.{◌≡◌, ℕ, suc, zero, ◌+◌, ◌<◌, Bool, true, false, cond, List, [], ◌∷◌, ◌++◌, length, take, drop, get_or, set, refl, sym, ap, ◌∙◌, arith, Result, Ok, Err, is_ok}
use Rattle.std.specs.declared.cmp.Ordering.{Ordering}
use Rattle.std.specs.declared.cmp.Ordering.TheVariants.{Less, Equal, Greater}
use Rattle.std.specs.Ordering.{is_eq, is_lt, is_gt, ordering_reverse}
use Rattle.std.specs.FinMap.{IsAntisymmetric}
use Rattle.std.specs.List.{AllByRecursion, filter, list_any}
use Rattle.std.specs.Cmp.{IsTotalOrder}
use Rattle.std.proofs.lemmas.List.{take-append-drop}
use Rattle.std.proofs.Math.Seq.{drop-cons}
use Rattle.gc_base.specs.Ascending.{Ascends, with_item}
use Rattle.gc_base.specs.Places.{IsPlaceOf, IsGapFor, IsPlaceOrGap}
use Rattle.gc_base.proofs.Search.{AllByRecursion-weaker}

-- a search answers `Ok` where the item is there
pub is_ok-search : {X : Type 0} (answer : X → Ordering) (xs : List X) (r : Result ℕ ℕ) → IsPlaceOrGap answer xs r → is_ok r ≡ list_any (λ x. is_eq (answer x)) xs
is_ok-search answer xs (Ok i) h = sym h.some
is_ok-search answer xs (Err i) h = sym h.none

module _ {X : Type 0} (P : X → Type 0) where
  pub AllByRecursion-filter : (p : X → Bool) (xs : List X) → AllByRecursion P xs → AllByRecursion P (filter p xs)
  AllByRecursion-filter p [] h = tt
  AllByRecursion-filter p (x ∷ xs) h =
      elim (p x) as (λ b. AllByRecursion P (cond b (x ∷ filter p xs) (filter p xs))) [
        | true ↦ (h.0, AllByRecursion-filter p xs h.1)
        | false ↦ AllByRecursion-filter p xs h.1
      ]

  pub AllByRecursion-append : (xs ys : List X) → AllByRecursion P xs → AllByRecursion P ys → AllByRecursion P (xs ++ ys)
  AllByRecursion-append [] ys h k = k
  AllByRecursion-append (x ∷ xs) ys h k = (h.0, AllByRecursion-append xs ys h.1 k)

-- what a filter keeps passes its test
pub filter-passes : {X : Type 0} (p : X → Bool) (xs : List X) → AllByRecursion (λ x. p x ≡ true) (filter p xs)
filter-passes p [] = tt
filter-passes p (x ∷ xs) =
    elim (p x) as (λ b. p x ≡ b → AllByRecursion (λ y. p y ≡ true) (cond b (x ∷ filter p xs) (filter p xs))) [
      | true ↦ λ e. (e, filter-passes p xs)
      | false ↦ λ e. filter-passes p xs
    ] refl

lt_is : (o : Ordering) → is_lt o ≡ true → o ≡ Less
lt_is Less h = refl
lt_is Equal h = cc
lt_is Greater h = cc

gt_is : (o : Ordering) → is_gt o ≡ true → o ≡ Greater
gt_is Less h = cc
gt_is Equal h = cc
gt_is Greater h = refl

module _ {X : Type 0} (cmp : X → X → Ordering) (o : IsTotalOrder cmp) where
  pub Ascends-filter : (p : X → Bool) (xs : List X) → Ascends cmp xs → Ascends cmp (filter p xs)
  Ascends-filter p [] h = tt
  Ascends-filter p (x ∷ xs) h =
      elim (p x) as (λ b. Ascends cmp (cond b (x ∷ filter p xs) (filter p xs))) [
        | true ↦ (AllByRecursion-filter _ p xs h.0, Ascends-filter p xs h.1)
        | false ↦ Ascends-filter p xs h.1
      ]

  Ascends-around : (xs : List X) (x : X) (ys : List X) → Ascends cmp xs → Ascends cmp ys
      → AllByRecursion (λ y. cmp y x ≡ Less) xs → AllByRecursion (λ y. cmp x y ≡ Less) ys → Ascends cmp (xs ++ x ∷ ys)
  Ascends-around [] x ys a b below above = (above, b)
  Ascends-around (y ∷ xs) x ys a b below above = (
    AllByRecursion-append (λ z. cmp y z ≡ Less) xs (x ∷ ys) a.0 (below.0, AllByRecursion-weaker _ _ (λ z h. o.trans y x z below.0 h) ys above),
    Ascends-around xs x ys a.1 b below.1 above,
  )

  -- an ascending list ascends with one more item
  pub Ascends-with_item : (xs : List X) (x : X) → Ascends cmp xs → Ascends cmp (with_item cmp xs x)
  Ascends-with_item xs x h =
      Ascends-around (filter (λ y. is_lt (cmp y x)) xs) x (filter (λ y. is_gt (cmp y x)) xs)
      (Ascends-filter _ xs h) (Ascends-filter _ xs h)
      (AllByRecursion-weaker _ _ (λ y e. lt_is (cmp y x) e) _ (filter-passes (λ y. is_lt (cmp y x)) xs))
      (AllByRecursion-weaker _ _ (λ y e. o.antisymm x y ∙ ap ordering_reverse (gt_is (cmp y x) e)) _ (filter-passes (λ y. is_gt (cmp y x)) xs))

-- each item of the list with one more
pub AllByRecursion-with_item : {X : Type 0} (cmp : X → X → Ordering) (P : X → Type 0) (xs : List X) (x : X) → AllByRecursion P xs → P x → AllByRecursion P (with_item cmp xs x)
AllByRecursion-with_item cmp P xs x h one =
    AllByRecursion-append P (filter (λ y. is_lt (cmp y x)) xs) (x ∷ filter (λ y. is_gt (cmp y x)) xs) (AllByRecursion-filter P _ xs h) (one, AllByRecursion-filter P _ xs h)

-- an item that is there changes nothing
pub with_item-present : {X : Type 0} (cmp : X → X → Ordering) → IsAntisymmetric cmp → (xs : List X) (x : X) (i : ℕ) → IsPlaceOf (λ y. cmp y x) xs i → with_item cmp xs x ≡ xs
with_item-present {X} cmp exact xs x i p =
    let same : get_or xs i x ≡ x = exact (get_or xs i x) x (p.ties x) in
    let step : i + 1 ≡ suc i = omega arith in
    let split : drop i xs ≡ get_or xs i x ∷ drop (suc i) xs = let lt = p.within in drop-cons xs i x lt in
    (λ j. p.less j ++ x ∷ p.greater j) ∙ (ap (λ k. take i xs ++ x ∷ drop k xs) step ∙ (ap (λ y. take i xs ++ y ∷ drop (suc i) xs) (sym same) ∙ (ap (λ ys. take i xs ++ ys) (sym split) ∙ take-append-drop i xs)))

-- the item at its gap
pub with_item-gap : {X : Type 0} (cmp : X → X → Ordering) (xs : List X) (x : X) (i : ℕ) → IsGapFor (λ y. cmp y x) xs i → with_item cmp xs x ≡ take i xs ++ x ∷ drop i xs
with_item-gap cmp xs x i p = λ j. p.less j ++ x ∷ p.greater j

-- a list with one item written over
pub set-split : {X : Type 0} (xs : List X) (i : ℕ) (v : X) → i < length xs → set xs i v ≡ take i xs ++ v ∷ drop (i + 1) xs
set-split [] i v lt = absurd (omega arith)
set-split (x ∷ xs) zero v lt = refl
set-split (x ∷ xs) (suc i) v lt =
    let below : i < length xs = omega arith in
    let k : suc i + 1 ≡ suc (i + 1) = omega arith in
    rw k (ap (λ ys. x ∷ ys) (set-split xs i v below))

-- the item written over the one that ties
pub with_item-place : {X : Type 0} (cmp : X → X → Ordering) (xs : List X) (x : X) (i : ℕ) → IsPlaceOf (λ y. cmp y x) xs i → with_item cmp xs x ≡ set xs i x
with_item-place cmp xs x i p = (λ j. p.less j ++ x ∷ p.greater j) ∙ sym (set-split xs i x p.within)
