-- The hops of some elements, one after another.
use Rattle.std.proofs.Common.{◌≡◌, ℕ, zero, suc, ◌+◌, ◌≤◌, Bool, true, false, cond, nat_eq, List, [], ◌∷◌, ◌++◌, map, length, drop, Some, refl, sym, ap, ◌∙◌, append_assoc, arith}
use Rattle.std.specs.List.{filter, slice_get}
use Rattle.std.specs.Cmp.Lexicographic.{pointwise}
use Rattle.gc_automata.specs.Moves.{Segment}
use Rattle.gc_prod.specs.declared.moves.Hop.{Hop}
use Rattle.gc_prod.specs.SymbolHops.{by_segment, by_segments}

module _ {X : Type 0} where
  -- what is left at a place is what stands there, and what is behind it
  pub left_at : (xs : List X) (i : ℕ) (x : X) → slice_get xs i ≡ Some x → drop i xs ≡ x ∷ drop (i + 1) xs
  left_at [] i x h = cc
  left_at (y ∷ xs) zero x h = let same : y ≡ x = cc in ap (λ z. z ∷ xs) same
  left_at (y ∷ xs) (suc i) x h = let e : suc i + 1 ≡ suc (i + 1) = omega arith in left_at xs i x h ∙ ap (λ n. x ∷ drop n (y ∷ xs)) (sym e)

module _ {X Y : Type 0} (f : X → Y) where
  pub mapped_more : (so_far : List Y) (xs : List X) (i : ℕ) (x : X) (whole : List Y) → slice_get xs i ≡ Some x
      → so_far ++ map f (drop i xs) ≡ whole → (so_far ++ f x ∷ []) ++ map f (drop (i + 1) xs) ≡ whole
  mapped_more so_far xs i x whole at all =
      append_assoc so_far (f x ∷ []) (map f (drop (i + 1) xs)) ∙ (ap (λ ys. so_far ++ map f ys) (sym (left_at xs i x at)) ∙ all)

-- one more item, which passes a test or not
module _ {X Y : Type 0} (f : X → Y) (p : X → Bool) where
  abbrev pub chosen : List X → List Y
  chosen xs = map f (filter p xs)

  pub one_more : (so_far : List Y) (xs : List X) (i : ℕ) (x : X) (whole : List Y) → slice_get xs i ≡ Some x → p x ≡ true
      → so_far ++ chosen (drop i xs) ≡ whole → (so_far ++ f x ∷ []) ++ chosen (drop (i + 1) xs) ≡ whole
  one_more so_far xs i x whole at passes all =
      append_assoc so_far (f x ∷ []) (chosen (drop (i + 1) xs))
      ∙ (ap (λ b. so_far ++ map f (cond b (x ∷ filter p (drop (i + 1) xs)) (filter p (drop (i + 1) xs)))) (sym passes)
      ∙ (ap (λ ys. so_far ++ chosen ys) (sym (left_at xs i x at)) ∙ all))

  pub none_more : (so_far : List Y) (xs : List X) (i : ℕ) (x : X) (whole : List Y) → slice_get xs i ≡ Some x → p x ≡ false
      → so_far ++ chosen (drop i xs) ≡ whole → so_far ++ chosen (drop (i + 1) xs) ≡ whole
  none_more so_far xs i x whole at fails all =
      ap (λ b. so_far ++ map f (cond b (x ∷ filter p (drop (i + 1) xs)) (filter p (drop (i + 1) xs)))) (sym fails)
      ∙ (ap (λ ys. so_far ++ chosen ys) (sym (left_at xs i x at)) ∙ all)

module _ (view : List ℕ) where
  pub one_segment : (so_far : List Hop) (xs : List Segment) (i : ℕ) (x : Segment) (whole : List Hop) → slice_get xs i ≡ Some x → pointwise nat_eq x.view view ≡ true
      → so_far ++ by_segments view i (drop i xs) ≡ whole → (so_far ++ by_segment i x ∷ []) ++ by_segments view (i + 1) (drop (i + 1) xs) ≡ whole
  one_segment so_far xs i x whole at passes all =
      append_assoc so_far (by_segment i x ∷ []) (by_segments view (i + 1) (drop (i + 1) xs))
      ∙ (ap (λ b. so_far ++ cond b (by_segment i x ∷ by_segments view (i + 1) (drop (i + 1) xs)) (by_segments view (i + 1) (drop (i + 1) xs))) (sym passes)
      ∙ (ap (λ ys. so_far ++ by_segments view i ys) (sym (left_at xs i x at)) ∙ all))

  pub no_segment : (so_far : List Hop) (xs : List Segment) (i : ℕ) (x : Segment) (whole : List Hop) → slice_get xs i ≡ Some x → pointwise nat_eq x.view view ≡ false
      → so_far ++ by_segments view i (drop i xs) ≡ whole → so_far ++ by_segments view (i + 1) (drop (i + 1) xs) ≡ whole
  no_segment so_far xs i x whole at fails all =
      ap (λ b. so_far ++ cond b (by_segment i x ∷ by_segments view (i + 1) (drop (i + 1) xs)) (by_segments view (i + 1) (drop (i + 1) xs))) (sym fails)
      ∙ (ap (λ ys. so_far ++ by_segments view i ys) (sym (left_at xs i x at)) ∙ all)

-- a filter that keeps as many items as there are keeps all
kept_few : {X : Type 0} (p : X → Bool) (xs : List X) → length (filter p xs) ≤ length xs
kept_few p [] = omega arith
kept_few p (x ∷ xs) =
    let rest = kept_few p xs in
    elim (p x) as (λ b. length (cond b (x ∷ filter p xs) (filter p xs)) ≤ suc (length xs)) [ true ↦ omega (arith, rest) | false ↦ omega (arith, rest) ]

pub kept_whole : {X : Type 0} (p : X → Bool) (xs : List X) → length (filter p xs) ≡ length xs → filter p xs ≡ xs
kept_whole p [] h = refl
kept_whole p (x ∷ xs) h = by (kept_whole p xs) (p x) h
  where
    by : (length (filter p xs) ≡ length xs → filter p xs ≡ xs) → (b : Bool) → length (cond b (x ∷ filter p xs) (filter p xs)) ≡ suc (length xs)
        → cond b (x ∷ filter p xs) (filter p xs) ≡ x ∷ xs
    by next true k = ap (λ l. x ∷ l) (next (omega (arith, k)))
    by next false k = absurd (omega (arith, k, kept_few p xs))

pub all_kept : {X : Type 0} (xs : List X) → filter (λ x. true) xs ≡ xs
all_kept [] = refl
all_kept (x ∷ xs) = ap (λ l. x ∷ l) (all_kept xs)
