-- Elements that are numbered one after another.
use Rattle.std.proofs.Common.{◌≡◌, ℕ, zero, suc, ◌+◌, ◌<◌, ◌≤◌, ◌==◌, ◌||◌, Bool, true, false, List, [], ◌∷◌, ◌++◌, map, nat_lt, refl, ap, ◌∙◌, arith}
use Rattle.std.proofs.lemmas.Bool.Decides.{nat_tests}
use Rattle.std.specs.declared.cmp.Ordering.TheVariants.{Less}
use Rattle.std.specs.List.{AllByRecursion, filter, range_with_len}
use Rattle.std.specs.Ordering.{is_gt, is_lt, nat_cmp, on}
use Rattle.gc_base.specs.Ascending.{with_item}
use Rattle.gc_spec.specs.PropertyGraph.{is_among}

less : (a b : ℕ) → a < b → nat_cmp a b ≡ Less
less a b h = let t : nat_lt a b ≡ true = grind (arith, nat_tests) in rw t refl

-- no number is among smaller ones
pub none_among : (ids : List ℕ) (k : ℕ) → AllByRecursion (λ id. id < k) ids → is_among ids k ≡ false
none_among [] k h = refl
none_among (id ∷ ids) k h =
    let below : id < k = h.0 in
    let differ : (id == k) ≡ false = grind (arith, nat_tests) in
    rw differ (none_among ids k h.1)

module _ {X : Type 0} (key : X → ℕ) where
  kept : (xs : List X) (x : X) → AllByRecursion (λ y. key y < key x) xs → filter (λ y. is_lt (nat_cmp (key y) (key x))) xs ≡ xs
  kept [] x h = refl
  kept (y ∷ xs) x h = rw (less (key y) (key x) h.0) (ap (λ ys. y ∷ ys) (kept xs x h.1))

  none_above : (xs : List X) (x : X) → AllByRecursion (λ y. key y < key x) xs → filter (λ y. is_gt (nat_cmp (key y) (key x))) xs ≡ []
  none_above [] x h = refl
  none_above (y ∷ xs) x h = rw (less (key y) (key x) h.0) (none_above xs x h.1)

  -- an element behind all others goes to their end
  pub with_last : (xs : List X) (x : X) → AllByRecursion (λ y. key y < key x) xs → with_item (on key nat_cmp) xs x ≡ xs ++ x ∷ []
  with_last xs x h = λ i. kept xs x h i ++ x ∷ none_above xs x h i

  pub keys_below : (xs : List X) (k : ℕ) → AllByRecursion (λ y. key y < k) xs → AllByRecursion (λ id. id < k) (map key xs)
  keys_below [] k h = tt
  keys_below (x ∷ xs) k h = (h.0, keys_below xs k h.1)

  -- elements that are numbered from a number on are below any other behind them
  pub numbered_below : (f : ℕ → X) (from : ℕ) → ((i : ℕ) → key (f i) ≡ from + i) → (a n k : ℕ) → from + (a + n) ≤ k
      → AllByRecursion (λ y. key y < k) (map f (range_with_len a n))
  numbered_below f from numbered a zero k h = tt
  numbered_below f from numbered a (suc n) k h =
      let number : key (f a) ≡ from + a = numbered a in
      let first : key (f a) < k = omega (arith, number) in
      let rest : from + ((a + 1) + n) ≤ k = omega arith in
      (first, numbered_below f from numbered (a + 1) n k rest)

  -- and each number of one of them is among theirs
  pub numbered_among : (f : ℕ → X) → ((i : ℕ) → key (f i) ≡ i) → (a n k : ℕ) → a ≤ k → k < a + n → is_among (map key (map f (range_with_len a n))) k ≡ true
  numbered_among f numbered a zero k low high = absurd (omega arith)
  numbered_among f numbered a (suc n) k low high =
      rw (numbered a) (elim (a == k) as (λ b. (a == k) ≡ b → (b || is_among (map key (map f (range_with_len (a + 1) n))) k) ≡ true) [
        | true ↦ λ e. refl
        | false ↦ λ e.
            let above : a + 1 ≤ k = grind (arith, nat_tests) in
            let within : k < (a + 1) + n = omega arith in
            numbered_among f numbered (a + 1) n k above within
      ] refl)
