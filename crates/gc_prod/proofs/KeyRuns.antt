-- The items of one key in a list that ascends by key.
use Rattle.std.proofs.Common.{◌≡◌, ℕ, zero, suc, ◌+◌, ◌<◌, ◌≤◌, true, false, cond, ◌==◌, nat_lt, nat_le, not, ◌&&◌, List, [], ◌∷◌, length, take, drop, get_or, refl, sym, ap, ◌∙◌, subst, arith}
use Rattle.std.specs.List.{AllWithin, filter}
use Rattle.std.specs.List.Sorted.{IsPartitionPoint, IsStableByKey}
use Rattle.std.specs.Ordering.{nat_cmp, is_lt}
use Rattle.std.proofs.lemmas.Bool.Decides.{nat_tests}
use Rattle.std.proofs.lemmas.List.{get_or-drop}
use Rattle.gc_prod.specs.Keys.{at_key}

less_differs : (a k : ℕ) → nat_lt a k ≡ true → (a == k) ≡ false
less_differs a k h = grind (arith, nat_tests)

not_less : (a k : ℕ) → nat_lt a k ≡ false → k ≤ a
not_less a k h = grind (arith, nat_tests)

both_same : (a k : ℕ) → k ≤ a → nat_le a k ≡ true → (a == k) ≡ true
both_same a k low high = grind (arith, nat_tests)

more_differs : (a k : ℕ) → nat_le a k ≡ false → (a == k) ≡ false
more_differs a k h = grind (arith, nat_tests)

module _ {X : Type 0} (key_of : X → ℕ) (key : ℕ) where
  -- what comes before the run has other keys
  skipped : (n : ℕ) (xs : List X) → n ≤ length xs → AllWithin (λ x. nat_lt (key_of x) key ≡ true) xs 0 n → at_key key_of key xs ≡ at_key key_of key (drop n xs)
  skipped zero xs le h = refl
  skipped (suc n) [] le h = absurd (omega arith)
  skipped (suc n) (x ∷ xs) le h =
      let other : (key_of x == key) ≡ false = less_differs (key_of x) key (h 0 x (omega arith) (omega arith)) in
      ap (λ b. cond b (x ∷ at_key key_of key xs) (at_key key_of key xs)) other ∙ skipped n xs (omega arith) (λ k d low high. h (suc k) d (omega arith) (omega arith))

  -- where no key is lower, the run comes first
  taken : (n : ℕ) (xs : List X) → n ≤ length xs → ((k : ℕ) (d : X) → k < length xs → key ≤ key_of (get_or xs k d))
      → AllWithin (λ x. nat_le (key_of x) key ≡ true) xs 0 n → AllWithin (λ x. nat_le (key_of x) key ≡ false) xs n (length xs)
      → at_key key_of key xs ≡ take n xs
  taken zero [] le low early late = refl
  taken zero (x ∷ xs) le low early late =
      let other : (key_of x == key) ≡ false = more_differs (key_of x) key (late 0 x (omega arith) (omega arith)) in
      ap (λ b. cond b (x ∷ at_key key_of key xs) (at_key key_of key xs)) other
      ∙ taken zero xs (omega arith) (λ k d below. low (suc k) d (omega arith)) (λ k d a b. absurd (omega arith)) (λ k d a b. late (suc k) d (omega arith) (omega arith))
  taken (suc n) [] le low early late = absurd (omega arith)
  taken (suc n) (x ∷ xs) le low early late =
      let same : (key_of x == key) ≡ true = both_same (key_of x) key (low 0 x (omega arith)) (early 0 x (omega arith) (omega arith)) in
      ap (λ b. cond b (x ∷ at_key key_of key xs) (at_key key_of key xs)) same
      ∙ ap (λ ys. x ∷ ys) (taken n xs (omega arith) (λ k d below. low (suc k) d (omega arith)) (λ k d a b. early (suc k) d (omega arith) (omega arith)) (λ k d a b. late (suc k) d (omega arith) (omega arith)))

  length_dropped : (n : ℕ) (xs : List X) → n ≤ length xs → length (drop n xs) + n ≡ length xs
  length_dropped zero xs le = omega arith
  length_dropped (suc n) [] le = absurd (omega arith)
  length_dropped (suc n) (x ∷ xs) le = let r = length_dropped n xs (omega arith) in omega arith

  -- the items of a key are a run between two partition points
  pub run_between : (xs : List X) (start count : ℕ) → start ≤ length xs → count ≤ length (drop start xs)
      → IsPartitionPoint (λ x. nat_lt (key_of x) key ≡ true) (λ x. nat_lt (key_of x) key ≡ false) xs start
      → IsPartitionPoint (λ x. nat_le (key_of x) key ≡ true) (λ x. nat_le (key_of x) key ≡ false) (drop start xs) count
      → take count (drop start xs) ≡ at_key key_of key xs
  run_between xs start count le fits p q =
      let all = length_dropped start xs le in
      sym (skipped start xs le p.0
      ∙ taken count (drop start xs) fits
      (λ k d below. subst (λ (x : X). key ≤ key_of x) (sym (get_or-drop start xs k d)) (not_less (key_of (get_or xs (start + k) d)) key (p.1 (start + k) d (omega arith) (omega arith))))
      q.0 q.1)

-- a list has an item of a key, or none of them has it
data HasKey {X : Type 0} (key_of : X → ℕ) (key : ℕ) (xs : List X) : Type 0 where
  some : (x : X) → key_of x ≡ key → HasKey key_of key xs
  none : at_key key_of key xs ≡ [] → HasKey key_of key xs

tie_is : (a b : ℕ) → (not (is_lt (nat_cmp a b)) && not (is_lt (nat_cmp b a))) ≡ (b == a)
tie_is a b = grind (arith, nat_tests)

eqb_same : (a b : ℕ) → (a == b) ≡ true → a ≡ b
eqb_same a b h = grind (arith, nat_tests)

module _ {X : Type 0} (key_of : X → ℕ) (key : ℕ) where
  looked : (xs : List X) → HasKey key_of key xs
  looked [] = none refl
  looked (x ∷ xs) =
      elim (key_of x == key) as (λ b. (key_of x == key) ≡ b → HasKey key_of key (x ∷ xs)) [
        | true ↦ λ e. some x (eqb_same (key_of x) key e)
        | false ↦ λ e. later e (looked xs)
      ] refl
    where
      later : (key_of x == key) ≡ false → HasKey key_of key xs → HasKey key_of key (x ∷ xs)
      later e (some y same) = some y same
      later e (none empty) = none (ap (λ b. cond b (x ∷ at_key key_of key xs) (at_key key_of key xs)) e ∙ empty)

  kept_at : (xs ys : List X) → IsStableByKey key_of nat_cmp xs ys → (x : X) → key_of x ≡ key → at_key key_of key ys ≡ at_key key_of key xs
  kept_at xs ys stable x same =
      subst (λ k. at_key key_of k ys ≡ at_key key_of k xs) same
      ((λ j. filter (λ y. sym (tie_is (key_of x) (key_of y)) j) ys) ∙ (stable x ∙ (λ j. filter (λ y. tie_is (key_of x) (key_of y) j) xs)))

  -- a stable sort keeps the items of each key
  pub kept_by_sort : (xs ys : List X) → IsStableByKey key_of nat_cmp xs ys → at_key key_of key ys ≡ at_key key_of key xs
  kept_by_sort xs ys stable = by (looked ys) (looked xs)
    where
      by : HasKey key_of key ys → HasKey key_of key xs → at_key key_of key ys ≡ at_key key_of key xs
      by (some y same) h = kept_at xs ys stable y same
      by (none empty) (some x same) = kept_at xs ys stable x same
      by (none empty) (none nothing) = empty ∙ sym nothing
