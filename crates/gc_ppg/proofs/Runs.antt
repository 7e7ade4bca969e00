-- The entries of one key in a list that ascends by key.
use Rattle.std.proofs.Common.{◌≡◌, ℕ, zero, suc, ◌+◌, ◌<◌, ◌≤◌, true, false, cond, ◌==◌, nat_lt, leb, ◌-◌, not, ◌&&◌, List, [], ◌∷◌, length, drop, get_or, Option, Some, None, refl, sym, ap, ◌∙◌, subst, arith}
use Rattle.std.specs.Bool.{⊤}
use Rattle.std.specs.List.{AllByRecursion, AllWithin, filter, slice_get}
use Rattle.std.specs.List.Sorted.{IsNonDecreasingBy, IsPartitionPoint, IsStableByKey}
use Rattle.std.specs.Ordering.{nat_cmp, is_lt}
use Rattle.std.proofs.lemmas.Bool.Decides.{nat_tests}
use Rattle.std.proofs.lemmas.List.{get_or_default}
use Rattle.std.proofs.lemmas.List.Elements.{recursion_from_All, All-from_all_within}
use Rattle.std.proofs.lemmas.List.Sorted.{IsNonDecreasingBy-drop}
use Rattle.gc_ppg.specs.KeyedPlaces.{at_key, run_at}
use Rattle.gc_ppg.specs.declared.places.PlaceAt.{PlaceAt}

less_differs : (a k : ℕ) → nat_lt a k ≡ true → (a == k) ≡ false
less_differs a k h = grind (arith, nat_tests)

more_differs : (a k : ℕ) → k < a → (a == k) ≡ false
more_differs a k h = grind (arith, nat_tests)

not_less : (a k : ℕ) → nat_lt a k ≡ false → k ≤ a
not_less a k h = grind (arith, nat_tests)

differs_more : (a k : ℕ) → k ≤ a → (a == k) ≡ false → k < a
differs_more a k h d = grind (arith, nat_tests)

module _ (key : ℕ) where
  -- what comes before the run has other keys
  skipped : (n : ℕ) (xs : List PlaceAt) → n ≤ length xs → AllWithin (λ e. nat_lt e.key key ≡ true) xs 0 n → at_key key xs ≡ at_key key (drop n xs)
  skipped zero xs le h = refl
  skipped (suc n) [] le h = absurd (omega arith)
  skipped (suc n) (x ∷ xs) le h =
      let other : (x.key == key) ≡ false = less_differs x.key key (h 0 x (omega arith) (omega arith)) in
      ap (λ b. cond b (x ∷ at_key key xs) (at_key key xs)) other ∙ skipped n xs (omega arith) (λ k d low high. h (suc k) d (omega arith) (omega arith))

  -- none has the key
  abbrev pub Others : List PlaceAt → Type 0
  Others = AllByRecursion (λ e. (e.key == key) ≡ false)

  -- after one that has another key, none has the key
  abbrev pub Run : List PlaceAt → Type 0
  Run [] = ⊤
  Run (x ∷ xs) = ((x.key == key) ≡ false → Others xs) × Run xs

  abbrev pub of_key : PlaceAt → Option PlaceAt
  of_key e = cond (e.key == key) (Some e) None

  others_none : (xs : List PlaceAt) (i : ℕ) → Others xs → run_at key xs i ≡ None
  others_none [] i h = refl
  others_none (x ∷ xs) zero h = ap (λ b. cond b (Some x) None) h.0
  others_none (x ∷ xs) (suc i) h = others_none xs i h.1

  others_kept : (xs : List PlaceAt) → Others xs → at_key key xs ≡ []
  others_kept [] h = refl
  others_kept (x ∷ xs) h = ap (λ b. cond b (x ∷ at_key key xs) (at_key key xs)) h.0 ∙ others_kept xs h.1

  in_run : (xs : List PlaceAt) (i : ℕ) → Run xs → slice_get (at_key key xs) i ≡ run_at key xs i
  in_run [] i r = refl
  in_run (x ∷ xs) zero r =
      elim (x.key == key) as (λ b. (x.key == key) ≡ b → slice_get (cond b (x ∷ at_key key xs) (at_key key xs)) 0 ≡ cond b (Some x) None) [
        | true ↦ λ e. refl
        | false ↦ λ e. ap (λ ys. slice_get ys 0) (others_kept xs (r.0 e))
      ] refl
  in_run (x ∷ xs) (suc i) r =
      elim (x.key == key) as (λ b. (x.key == key) ≡ b → slice_get (cond b (x ∷ at_key key xs) (at_key key xs)) (suc i) ≡ run_at key xs i) [
        | true ↦ λ e. in_run xs i r.1
        | false ↦ λ e. ap (λ ys. slice_get ys (suc i)) (others_kept xs (r.0 e)) ∙ sym (others_none xs i (r.0 e))
      ] refl

  run_from : (xs : List PlaceAt) → ((k : ℕ) (d : PlaceAt) → k < length xs → key ≤ (get_or xs k d).key) → IsNonDecreasingBy (λ e. e.key) xs → Run xs
  run_from [] low up = tt
  run_from (x ∷ xs) low up = (
    λ e.
        let above : key < x.key = differs_more x.key key (low 0 x (omega arith)) e in
        recursion_from_All (λ y. (y.key == key) ≡ false) xs
        (All-from_all_within (λ y. (y.key == key) ≡ false) xs (λ k d from below.
        let later : x.key ≤ (get_or xs k d).key = up 0 (suc k) d (omega arith) (omega arith) in
        more_differs (get_or xs k d).key key (omega arith))),
    run_from xs (λ k d below. low (suc k) d (omega arith)) (λ i j d le below. up (suc i) (suc j) d (omega arith) (omega arith)),
  )

  get_or-drop : (n k : ℕ) (xs : List PlaceAt) (d : PlaceAt) → get_or (drop n xs) k d ≡ get_or xs (n + k) d
  get_or-drop zero k xs d = let e : 0 + k ≡ k = omega arith in ap (λ j. get_or xs j d) (sym e)
  get_or-drop (suc n) k [] d = refl
  get_or-drop (suc n) k (x ∷ xs) d = let e : suc n + k ≡ suc (n + k) = omega arith in get_or-drop n k xs d ∙ ap (λ j. get_or (x ∷ xs) j d) (sym e)

  length_dropped : (n : ℕ) (xs : List PlaceAt) → n ≤ length xs → length (drop n xs) + n ≡ length xs
  length_dropped zero xs le = omega arith
  length_dropped (suc n) [] le = absurd (omega arith)
  length_dropped (suc n) (x ∷ xs) le = let r = length_dropped n xs (omega arith) in omega arith

  -- the i-th entry of a key is the i-th from where the entries of that key begin, if it has the key
  pub from_start : (xs : List PlaceAt) (start i : ℕ) → start ≤ length xs → IsNonDecreasingBy (λ e. e.key) xs
      → IsPartitionPoint (λ e. nat_lt e.key key ≡ true) (λ e. nat_lt e.key key ≡ false) xs start
      → slice_get (at_key key xs) i ≡ run_at key (drop start xs) i
  from_start xs start i le up p =
      let all = length_dropped start xs le in
      ap (λ ys. slice_get ys i) (skipped start xs le p.0)
      ∙ in_run (drop start xs) i
      (run_from (drop start xs)
      (λ k d below. subst (λ (e : PlaceAt). key ≤ e.key) (sym (get_or-drop start k xs d)) (not_less (get_or xs (start + k) d).key key (p.1 (start + k) d (omega arith) (omega arith))))
      (IsNonDecreasingBy-drop (λ e. e.key) start xs up))

tie_is : (a b : ℕ) → (not (is_lt (nat_cmp a b)) && not (is_lt (nat_cmp b a))) ≡ (b == a)
tie_is a b = grind (arith, nat_tests)

-- a stable sort keeps the entries of each key
pub kept_by_sort : (xs ys : List PlaceAt) → IsStableByKey (λ e. e.key) nat_cmp xs ys → (key : ℕ) → at_key key ys ≡ at_key key xs
kept_by_sort xs ys stable key =
    let e : PlaceAt = record { key = key; place = 0; far = record { edge = 0; node = 0 } } in
    (λ j. filter (λ y. sym (tie_is key y.key) j) ys) ∙ (stable e ∙ (λ j. filter (λ y. tie_is key y.key j) xs))

less_more : (a b k : ℕ) → a ≤ b → nat_lt b k ≡ true → nat_lt a k ≡ true
less_more a b k le h = grind (arith, nat_tests)

more_less : (a b k : ℕ) → a ≤ b → leb k a ≡ true → nat_lt b k ≡ false
more_less a b k le h = grind (arith, nat_tests)

-- where the entry before a place has a key below one, all before the place have
pub below_before : (xs : List PlaceAt) (place key : ℕ) (e : PlaceAt) → IsNonDecreasingBy (λ e. e.key) xs → 0 < place → place ≤ length xs
    → nat_lt (get_or xs (place - 1) e).key key ≡ true → AllWithin (λ e. nat_lt e.key key ≡ true) xs 0 place
below_before xs place key e up some le last k d low high =
    let rise : (get_or xs k d).key ≤ (get_or xs (place - 1) d).key = up k (place - 1) d (omega arith) (omega arith) in
    less_more (get_or xs k d).key (get_or xs (place - 1) d).key key rise
    (subst (λ (x : PlaceAt). nat_lt x.key key ≡ true) (get_or_default xs (place - 1) e d (omega arith)) last)

-- where the entry at a place has a key from one on, all from the place on have
pub above_from : (xs : List PlaceAt) (place key : ℕ) (e : PlaceAt) → IsNonDecreasingBy (λ e. e.key) xs → place < length xs
    → leb key (get_or xs place e).key ≡ true → AllWithin (λ e. nat_lt e.key key ≡ false) xs place (length xs)
above_from xs place key e up within first k d low high =
    let rise : (get_or xs place d).key ≤ (get_or xs k d).key = up place k d low high in
    more_less (get_or xs place d).key (get_or xs k d).key key rise
    (subst (λ (x : PlaceAt). leb key x.key ≡ true) (get_or_default xs place e d within) first)
