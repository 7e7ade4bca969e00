-- Searches in ascending lists.
use Rattle.std.proofs.Common.{◌≡◌, ℕ, zero, suc, ◌+◌, ◌<◌, ◌≤◌, false, not, List, [], ◌∷◌, length, get_or, refl, sym, ap, ◌∙◌, subst, arith, Result, Ok, Err, None}
use Rattle.std.specs.Bool.{⊤}
use Rattle.std.proofs.lemmas.List.Elements.{recursion_from_All, All-from_all_within}
use Rattle.std.specs.declared.cmp.Ordering.{Ordering}
use Rattle.std.specs.declared.cmp.Ordering.TheVariants.{Less, Equal, Greater}
use Rattle.std.specs.Ordering.{on, is_eq, is_lt, is_gt, ordering_index, MatchOrdering, ordering_reverse}
use Rattle.std.specs.List.{AllByRecursion, filter, find, list_any, HoldsAt}
use Rattle.std.specs.List.Sorted.{IsNonDecreasingBy, IsBinarySearchResult, IsPartitionPoint, IsSearchInRange}
use Rattle.std.specs.Cmp.{IsTotalOrder}
use Rattle.gc_base.specs.Ascending.{Ascends}
use Rattle.gc_base.specs.Places.{IsPlaceOf, IsGapFor, IsPlaceOrGap}

module _ {X : Type 0} (answer : X → Ordering) where
  abbrev pub AllGreater : List X → Type 0
  AllGreater = AllByRecursion (λ x. answer x ≡ Greater)

  -- the answers rise along the list: less, then at most one that ties, then greater
  abbrev pub Rises : List X → Type 0
  Rises [] = ⊤
  Rises (x ∷ xs) = MatchOrdering (answer x) (Rises xs) (AllGreater xs) (AllGreater xs)

  pub greater_kept : (xs : List X) → AllGreater xs → filter (λ x. is_gt (answer x)) xs ≡ xs
  greater_kept [] h = refl
  greater_kept (x ∷ xs) h = rw h.0 (ap (λ ys. x ∷ ys) (greater_kept xs h.1))

  pub greater_not_less : (xs : List X) → AllGreater xs → filter (λ x. is_lt (answer x)) xs ≡ []
  greater_not_less [] h = refl
  greater_not_less (x ∷ xs) h = rw h.0 (greater_not_less xs h.1)

  greater_not_equal : (xs : List X) → AllGreater xs → list_any (λ x. is_eq (answer x)) xs ≡ false
  greater_not_equal [] h = refl
  greater_not_equal (x ∷ xs) h = rw h.0 (greater_not_equal xs h.1)

  greater_not_found : (xs : List X) → AllGreater xs → find (λ x. is_eq (answer x)) xs ≡ None
  greater_not_found [] h = refl
  greater_not_found (x ∷ xs) h = rw h.0 (greater_not_found xs h.1)

  greater_others : (xs : List X) → AllGreater xs → filter (λ x. not (is_eq (answer x))) xs ≡ xs
  greater_others [] h = refl
  greater_others (x ∷ xs) h = rw h.0 (ap (λ ys. x ∷ ys) (greater_others xs h.1))

  greater_at : (xs : List X) (i : ℕ) (d : X) → AllGreater xs → i < length xs → answer (get_or xs i d) ≡ Greater
  greater_at [] i d h lt = absurd (omega arith)
  greater_at (x ∷ xs) zero d h lt = h.0
  greater_at (x ∷ xs) (suc i) d h lt = greater_at xs i d h.1 (omega arith)

  greater_rises : (xs : List X) → AllGreater xs → Rises xs
  greater_rises [] h = tt
  greater_rises (x ∷ xs) h = subst (λ o. MatchOrdering o (Rises xs) (AllGreater xs) (AllGreater xs)) (sym h.0) h.1

  rest_rises : (o : Ordering) (xs : List X) → MatchOrdering o (Rises xs) (AllGreater xs) (AllGreater xs) → Rises xs
  rest_rises Less xs r = r
  rest_rises Equal xs r = greater_rises xs r
  rest_rises Greater xs r = greater_rises xs r

  none_ties : {P : Type 0} (xs : List X) (i : ℕ) → AllGreater xs → i < length xs → ((d : X) → answer (get_or xs i d) ≡ Equal) → (d : X) → P
  none_ties xs i g lt h d = let e = greater_at xs i d g lt in let f = h d in absurd (cc (e, f))

  pub place_found : (xs : List X) (i : ℕ) → Rises xs → i < length xs → HoldsAt (λ x. answer x ≡ Equal) xs i → IsPlaceOf answer xs i
  place_found [] i r lt h = absurd (omega arith)
  place_found (x ∷ xs) zero r lt h =
      let e : answer x ≡ Equal = h x in
      let g : AllGreater xs = subst (λ o. MatchOrdering o (Rises xs) (AllGreater xs) (AllGreater xs)) e r in
      record { within = lt; ties = h; some = rw e refl; first = rw e refl; less = rw e (greater_not_less xs g); greater = rw e (greater_kept xs g); others = rw e (greater_others xs g) }
  place_found (x ∷ xs) (suc i) r lt h =
      let below : i < length xs = omega arith in
      elim (answer x) as (λ o. answer x ≡ o → MatchOrdering o (Rises xs) (AllGreater xs) (AllGreater xs) → IsPlaceOf answer (x ∷ xs) (suc i)) [
        | Less ↦ λ e r. let p = place_found xs i r below h in record {
          within = lt;
          ties = h;
          some = rw e p.some;
          first = rw e p.first;
          less = rw e (ap (λ ys. x ∷ ys) p.less);
          greater = let k : suc i + 1 ≡ suc (i + 1) = omega arith in rw (e, k) p.greater;
          others = let k : suc i + 1 ≡ suc (i + 1) = omega arith in rw (e, k) (ap (λ ys. x ∷ ys) p.others);
        }
        | Equal ↦ λ e g. none_ties xs i g below h x
        | Greater ↦ λ e g. none_ties xs i g below h x
      ] refl r

  pub gap_found : (xs : List X) (i : ℕ) → Rises xs → i ≤ length xs → IsPartitionPoint (λ x. answer x ≡ Less) (λ x. answer x ≡ Greater) xs i → IsGapFor answer xs i
  gap_found [] zero r le h = record { within = le; none = refl; first = refl; less = refl; greater = refl; others = refl }
  gap_found [] (suc i) r le h = absurd (omega arith)
  gap_found (x ∷ xs) zero r le h =
      let g : AllGreater (x ∷ xs) = recursion_from_All (λ y. answer y ≡ Greater) (x ∷ xs) (All-from_all_within (λ y. answer y ≡ Greater) (x ∷ xs) h.1) in
      record { within = le; none = greater_not_equal (x ∷ xs) g; first = greater_not_found (x ∷ xs) g; less = greater_not_less (x ∷ xs) g; greater = greater_kept (x ∷ xs) g; others = greater_others (x ∷ xs) g }
  gap_found (x ∷ xs) (suc i) r le h =
      let e : answer x ≡ Less = h.0 0 x (omega arith) (omega arith) in
      let p = gap_found xs i (subst (λ o. MatchOrdering o (Rises xs) (AllGreater xs) (AllGreater xs)) e r) (omega arith)
      (λ k d l m. h.0 (suc k) d (omega arith) (omega arith), λ k d l m. h.1 (suc k) d (omega arith) (omega arith)) in
      record { within = le; none = rw e p.none; first = rw e p.first; less = rw e (ap (λ ys. x ∷ ys) p.less); greater = rw e p.greater; others = rw e (ap (λ ys. x ∷ ys) p.others) }

  first_least : (o : Ordering) (xs : List X) (j : ℕ) (d : X) → MatchOrdering o (Rises xs) (AllGreater xs) (AllGreater xs) → j < length xs
      → ordering_index o ≤ ordering_index (answer (get_or xs j d))
  first_least Less xs j d r lt = omega arith
  first_least Equal xs j d r lt = rw (greater_at xs j d r lt) (omega arith)
  first_least Greater xs j d r lt = rw (greater_at xs j d r lt) (omega arith)

  pub rises_in_order : (xs : List X) → Rises xs → IsNonDecreasingBy (λ x. ordering_index (answer x)) xs
  rises_in_order [] r i j d le lt = absurd (omega arith)
  rises_in_order (x ∷ xs) r zero zero d le lt = omega arith
  rises_in_order (x ∷ xs) r zero (suc j) d le lt = first_least (answer x) xs j d r (omega arith)
  rises_in_order (x ∷ xs) r (suc i) zero d le lt = absurd (omega arith)
  rises_in_order (x ∷ xs) r (suc i) (suc j) d le lt = rises_in_order xs (rest_rises (answer x) xs r) i j d (omega arith) (omega arith)

-- what holds of each item gives what follows from it
pub AllByRecursion-weaker : {X : Type 0} (P Q : X → Type 0) → ((x : X) → P x → Q x) → (xs : List X) → AllByRecursion P xs → AllByRecursion Q xs
AllByRecursion-weaker P Q f [] h = tt
AllByRecursion-weaker P Q f (x ∷ xs) h = (f x h.0, AllByRecursion-weaker P Q f xs h.1)

-- a list that ascends by a key rises towards each key
pub rises : {X K : Type 0} (key : X → K) (cmp : K → K → Ordering) → IsTotalOrder cmp → (xs : List X) (k : K) → Ascends (on key cmp) xs → Rises (λ x. cmp (key x) k) xs
rises key cmp o [] k up = tt
rises {X} {K} key cmp o (y ∷ ys) k up =
    let turned : (z : K) → cmp k z ≡ Less → cmp z k ≡ Greater = λ z h. o.antisymm z k ∙ ap ordering_reverse h in
    elim (cmp (key y) k) as (λ a. cmp (key y) k ≡ a → MatchOrdering a (Rises (λ x. cmp (key x) k) ys) (AllByRecursion (λ z. cmp (key z) k ≡ Greater) ys) (AllByRecursion (λ z. cmp (key z) k ≡ Greater) ys)) [
      | Less ↦ λ e. rises key cmp o ys k up.1
      | Equal ↦ λ e. AllByRecursion-weaker _ _ (λ z h. turned (key z) (sym (o.congr (key y) k (key z) e) ∙ h)) ys up.0
      | Greater ↦ λ e. AllByRecursion-weaker _ _ (λ z h. turned (key z) (o.trans k (key y) (key z) (o.antisymm k (key y) ∙ ap ordering_reverse e) h)) ys up.0
    ] refl

-- what a binary search by a key answers in a list that ascends by it
pub searched : {X K : Type 0} (key : X → K) (cmp : K → K → Ordering) → IsTotalOrder cmp → (xs : List X) (k : K) (r : Result ℕ ℕ) → Ascends (on key cmp) xs
    → IsSearchInRange r (length xs) → IsBinarySearchResult (λ x. cmp (key x) k) xs r → IsPlaceOrGap (λ x. cmp (key x) k) xs r
searched key cmp o xs k (Ok i) up within found = place_found _ xs i (rises key cmp o xs k up) within found
searched key cmp o xs k (Err i) up within found = gap_found _ xs i (rises key cmp o xs k up) within (found (rises_in_order _ xs (rises key cmp o xs k up)))
