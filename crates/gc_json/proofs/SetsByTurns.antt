-- A set of items is the same in whatever order they go in.
use Rattle.std.proofs.Common.{◌≡◌, Bool, true, false, cond, List, [], ◌∷◌, ◌++◌, append_assoc, append-nil, refl, sym, ap, ap₂, ◌∙◌}
use Rattle.std.proofs.lemmas.List.Elements.{filter-append}
use Rattle.std.specs.declared.cmp.Ordering.{Ordering}
use Rattle.std.specs.declared.cmp.Ordering.TheVariants.{Less, Equal, Greater}
use Rattle.std.specs.Ordering.{is_lt, is_gt, ordering_reverse}
use Rattle.std.specs.Cmp.{IsTotalOrder}
use Rattle.std.specs.FinMap.{IsAntisymmetric}
use Rattle.std.specs.List.{filter, fold}
use Rattle.gc_base.specs.Ascending.{with_item}
use Rattle.gc_json.specs.Gathering.{set_of}

-- ---- two filters

module _ {X : Type 0} (p q : X → Bool) where
  -- what passes the first passes the second
  abbrev Implies : Type 0
  Implies = (x : X) → p x ≡ true → q x ≡ true

  stays : Implies → (xs : List X) → filter q (filter p xs) ≡ filter p xs
  stays h [] = refl
  stays h (x ∷ xs) =
      elim (p x) as (λ b. p x ≡ b → filter q (cond b (x ∷ filter p xs) (filter p xs)) ≡ cond b (x ∷ filter p xs) (filter p xs)) [
        | true ↦ λ e. rw (h x e) (ap (λ ys. x ∷ ys) (stays h xs))
        | false ↦ λ e. stays h xs
      ] refl

  none : ((x : X) → p x ≡ true → q x ≡ false) → (xs : List X) → filter q (filter p xs) ≡ []
  none h [] = refl
  none h (x ∷ xs) =
      elim (p x) as (λ b. p x ≡ b → filter q (cond b (x ∷ filter p xs) (filter p xs)) ≡ []) [
        | true ↦ λ e. rw (h x e) (none h xs)
        | false ↦ λ e. none h xs
      ] refl

  in_turn : (xs : List X) → filter p (filter q xs) ≡ filter q (filter p xs)
  in_turn [] = refl
  in_turn (x ∷ xs) =
      elim (p x) as (λ b. p x ≡ b → filter p (cond (q x) (x ∷ filter q xs) (filter q xs)) ≡ filter q (cond b (x ∷ filter p xs) (filter p xs))) [
        | true ↦ λ e.
            elim (q x) as (λ c. filter p (cond c (x ∷ filter q xs) (filter q xs)) ≡ cond c (x ∷ filter q (filter p xs)) (filter q (filter p xs))) [
              | true ↦ rw e (ap (λ ys. x ∷ ys) (in_turn xs))
              | false ↦ in_turn xs
            ]
        | false ↦ λ e.
            elim (q x) as (λ c. filter p (cond c (x ∷ filter q xs) (filter q xs)) ≡ filter q (filter p xs)) [
              | true ↦ rw e (in_turn xs)
              | false ↦ in_turn xs
            ]
      ] refl

is_less : (o : Ordering) → is_lt o ≡ true → o ≡ Less
is_less Less h = refl
is_less Equal h = cc
is_less Greater h = cc

is_greater : (o : Ordering) → is_gt o ≡ true → o ≡ Greater
is_greater Less h = cc
is_greater Equal h = cc
is_greater Greater h = refl

-- ---- two items

module _ {X : Type 0} (cmp : X → X → Ordering) (total : IsTotalOrder cmp) where
  abbrev below : X → X → Bool
  below x y = is_lt (cmp y x)

  abbrev above : X → X → Bool
  above x y = is_gt (cmp y x)

  turned : (x y : X) → cmp x y ≡ Greater → cmp y x ≡ Less
  turned x y h = total.antisymm y x ∙ ap ordering_reverse h

  turned_back : (x y : X) → cmp x y ≡ Less → cmp y x ≡ Greater
  turned_back x y h = total.antisymm y x ∙ ap ordering_reverse h

  module _ (x y : X) (less : cmp x y ≡ Less) where
    below_both : Implies (below x) (below y)
    below_both z h = ap is_lt (total.trans z x y (is_less (cmp z x) h) less)

    not_above : (z : X) → below x z ≡ true → above y z ≡ false
    not_above z h = ap is_gt (total.trans z x y (is_less (cmp z x) h) less)

    above_both : Implies (above y) (above x)
    above_both z h = ap is_gt (turned_back x z (total.trans x y z less (turned z y (is_greater (cmp z y) h))))

    not_below : (z : X) → above y z ≡ true → below x z ≡ false
    not_below z h = ap is_lt (turned_back x z (total.trans x y z less (turned z y (is_greater (cmp z y) h))))

    -- what is below both, the lesser, what is between, the greater, what is above both
    abbrev with_both : List X → List X
    with_both xs = filter (below x) xs ++ x ∷ (filter (below y) (filter (above x) xs) ++ y ∷ filter (above y) xs)

    less_first : (xs : List X) → with_item cmp (with_item cmp xs x) y ≡ with_both xs
    less_first xs =
        let low = filter (below x) xs in
        let high = filter (above x) xs in
        let here : below y x ≡ true = ap is_lt less in
        let gone : above y x ≡ false = ap is_gt less in
        let front : filter (below y) (low ++ x ∷ high) ≡ low ++ x ∷ filter (below y) high =
        filter-append (below y) low (x ∷ high) ∙ ap₂ (λ a b. a ++ b) (stays (below x) (below y) below_both xs) (rw here refl) in
        let back : filter (above y) (low ++ x ∷ high) ≡ filter (above y) xs =
        filter-append (above y) low (x ∷ high)
        ∙ ap₂ (λ a b. a ++ b) (none (below x) (above y) not_above xs) (rw gone (in_turn (above y) (above x) xs ∙ stays (above y) (above x) above_both xs)) in
        ap₂ (λ a b. a ++ y ∷ b) front back ∙ append_assoc low (x ∷ filter (below y) high) (y ∷ filter (above y) xs)

    greater_first : (xs : List X) → with_item cmp (with_item cmp xs y) x ≡ with_both xs
    greater_first xs =
        let low = filter (below y) xs in
        let high = filter (above y) xs in
        let here : above x y ≡ true = ap is_gt (turned_back x y less) in
        let gone : below x y ≡ false = ap is_lt (turned_back x y less) in
        let front : filter (below x) (low ++ y ∷ high) ≡ filter (below x) xs =
        filter-append (below x) low (y ∷ high)
        ∙ ap₂ (λ a b. a ++ b) (in_turn (below x) (below y) xs ∙ stays (below x) (below y) below_both xs) (rw gone (none (above y) (below x) not_below xs))
        ∙ append-nil (filter (below x) xs) in
        let back : filter (above x) (low ++ y ∷ high) ≡ filter (below y) (filter (above x) xs) ++ y ∷ high =
        filter-append (above x) low (y ∷ high)
        ∙ ap₂ (λ a b. a ++ b) (in_turn (above x) (below y) xs) (rw here (ap (λ ys. y ∷ ys) (stays (above y) (above x) above_both xs))) in
        ap₂ (λ a b. a ++ x ∷ b) front back

  -- two items go in in either order
  either_first : IsAntisymmetric cmp → (x y : X) (xs : List X) → with_item cmp (with_item cmp xs x) y ≡ with_item cmp (with_item cmp xs y) x
  either_first exact x y xs =
      elim (cmp x y) as (λ o. cmp x y ≡ o → with_item cmp (with_item cmp xs x) y ≡ with_item cmp (with_item cmp xs y) x) [
        | Less ↦ λ e. less_first x y e xs ∙ sym (greater_first x y e xs)
        | Equal ↦ λ e. let same = exact x y e in ap₂ (λ a b. with_item cmp (with_item cmp xs a) b) same (sym same)
        | Greater ↦ λ e. let less = turned x y e in greater_first y x less xs ∙ sym (less_first y x less xs)
      ] refl

  later : IsAntisymmetric cmp → (x : X) (xs old : List X) → fold (with_item cmp) (with_item cmp old x) xs ≡ with_item cmp (fold (with_item cmp) old xs) x
  later exact x [] old = refl
  later exact x (y ∷ xs) old = ap (λ ys. fold (with_item cmp) ys xs) (either_first exact x y old) ∙ later exact x xs (with_item cmp old y)

  -- a loop that puts in one item after another makes the set of all
  pub set_by_turns : IsAntisymmetric cmp → (xs : List X) → fold (with_item cmp) [] xs ≡ set_of cmp xs
  set_by_turns exact [] = refl
  set_by_turns exact (x ∷ xs) = later exact x xs [] ∙ ap (λ ys. with_item cmp ys x) (set_by_turns exact xs)
