-- An ascending list is what its items make one by one.
use Rattle.std.proofs.Common.{◌≡◌, List, [], ◌∷◌, ◌++◌, fold, refl, sym, ap, ◌∙◌, subst, append_assoc, append-nil}
use Rattle.std.specs.declared.cmp.Ordering.{Ordering}
use Rattle.std.specs.declared.cmp.Ordering.TheVariants.{Less}
use Rattle.std.specs.Ordering.{is_lt, is_gt}
use Rattle.std.specs.List.{AllByRecursion, filter}
use Rattle.gc_base.specs.Ascending.{Ascends, with_item}

module _ {X : Type 0} (cmp : X → X → Ordering) where
  less_kept : (xs : List X) (n : X) → AllByRecursion (λ y. cmp y n ≡ Less) xs → filter (λ y. is_lt (cmp y n)) xs ≡ xs
  less_kept [] n h = refl
  less_kept (x ∷ xs) n h = rw h.0 (ap (λ ys. x ∷ ys) (less_kept xs n h.1))

  less_not_greater : (xs : List X) (n : X) → AllByRecursion (λ y. cmp y n ≡ Less) xs → filter (λ y. is_gt (cmp y n)) xs ≡ []
  less_not_greater [] n h = refl
  less_not_greater (x ∷ xs) n h = rw h.0 (less_not_greater xs n h.1)

  in_middle : (x : X) (xs : List X) (n : X) (more : List X) → AllByRecursion (λ y. cmp x y ≡ Less) (xs ++ n ∷ more) → cmp x n ≡ Less
  in_middle x [] n more h = h.0
  in_middle x (y ∷ xs) n more h = in_middle x xs n more h.1

  pub before : (xs : List X) (n : X) (more : List X) → Ascends cmp (xs ++ n ∷ more) → AllByRecursion (λ y. cmp y n ≡ Less) xs
  before [] n more h = tt
  before (x ∷ xs) n more h = (in_middle x xs n more h.0, before xs n more h.1)

  -- the next item of an ascending list goes to the end of those before it
  pub with_item-last : (xs : List X) (n : X) (more : List X) → Ascends cmp (xs ++ n ∷ more) → with_item cmp xs n ≡ xs ++ n ∷ []
  with_item-last xs n more up =
      let below = before xs n more up in λ i. less_kept xs n below i ++ n ∷ less_not_greater xs n below i

  -- an ascending list is its first items and then the others, one by one
  pub fold-last : (done more : List X) → Ascends cmp (done ++ more) → fold (with_item cmp) done more ≡ done ++ more
  fold-last done [] up = sym (append-nil done)
  fold-last done (x ∷ more) up =
      let next : with_item cmp done x ≡ done ++ x ∷ [] = with_item-last done x more up in
      let same : (done ++ x ∷ []) ++ more ≡ done ++ x ∷ more = append_assoc done (x ∷ []) more in
      ap (λ xs. fold (with_item cmp) xs more) next ∙ (fold-last (done ++ x ∷ []) more (subst (Ascends cmp) (sym same) up) ∙ same)

  -- so it is what its items make of nothing
  pub fold-ascending : (xs : List X) → Ascends cmp xs → fold (with_item cmp) [] xs ≡ xs
  fold-ascending xs up = fold-last [] xs up
