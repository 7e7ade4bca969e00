-- A tree's keys are the set of what went in, and a set takes items that ascend at its end.
use Rattle.std.proofs.Common.{◌≡◌, List, [], ◌∷◌, ◌++◌, refl, sym, ap, ◌∙◌, subst}
use Rattle.std.specs.declared.cmp.Ordering.{Ordering}
use Rattle.std.specs.declared.cmp.Ordering.TheVariants.{Less, Equal, Greater}
use Rattle.std.specs.BTreeSet.{insert_key}
use Rattle.std.specs.Ordering.{is_lt, is_gt, match_ordering, MatchOrdering, ordering_reverse}
use Rattle.std.specs.Cmp.{IsTotalOrder}
use Rattle.std.specs.FinMap.{IsAntisymmetric}
use Rattle.std.specs.List.{AllByRecursion, filter}
use Rattle.std.specs.List.Sorted.{IsStrictlySortedBy}
use Rattle.gc_base.specs.Ascending.{Ascends, with_item}
use Rattle.gc_base.proofs.Search.{Rises, AllGreater, greater_kept, greater_not_less, rises}
use Rattle.gc_base.proofs.SetLaws.{Ascends-with_item}

module _ {X : Type 0} (cmp : X → X → Ordering) where
  insert_rises : IsTotalOrder cmp → IsAntisymmetric cmp → (xs : List X) (n : X) → Rises (λ y. cmp y n) xs → insert_key cmp xs n ≡ with_item cmp xs n
  insert_rises total exact [] n r = refl
  insert_rises total exact (x ∷ xs) n r =
      let answer : X → Ordering = λ y. cmp y n in
      let turned : cmp x n ≡ ordering_reverse (cmp n x) = total.antisymm x n in
      let rest : (o : Ordering) → cmp x n ≡ o → MatchOrdering o (Rises answer xs) (AllGreater answer xs) (AllGreater answer xs) =
      λ o a. subst (λ p. MatchOrdering p (Rises answer xs) (AllGreater answer xs) (AllGreater answer xs)) a r in
      elim (cmp n x) as (λ o. cmp n x ≡ o → match_ordering o (n ∷ x ∷ xs) (x ∷ xs) (x ∷ insert_key cmp xs n) ≡ with_item cmp (x ∷ xs) n) [
        | Less ↦ λ c.
            let a : answer x ≡ Greater = turned ∙ ap ordering_reverse c in
            let g : AllGreater answer (x ∷ xs) = (a, rest Greater a) in
            sym (λ i. greater_not_less answer (x ∷ xs) g i ++ n ∷ greater_kept answer (x ∷ xs) g i)
        | Equal ↦ λ c.
            let a : answer x ≡ Equal = turned ∙ ap ordering_reverse c in
            ap (λ y. y ∷ xs) (exact x n a) ∙ rw a (sym (λ i. greater_not_less answer xs (rest Equal a) i ++ n ∷ greater_kept answer xs (rest Equal a) i))
        | Greater ↦ λ c.
            let a : answer x ≡ Less = turned ∙ ap ordering_reverse c in
            rw a (ap (λ ys. x ∷ ys) (insert_rises total exact xs n (rest Less a)))
      ] refl

  -- a key goes in as an item does
  pub insert_key-with_item : IsTotalOrder cmp → IsAntisymmetric cmp → (xs : List X) (n : X) → Ascends cmp xs → insert_key cmp xs n ≡ with_item cmp xs n
  insert_key-with_item total exact xs n up = insert_rises total exact xs n (rises (λ x. x) cmp total xs n up)

  pub Ascends-insert_key : IsTotalOrder cmp → IsAntisymmetric cmp → (xs : List X) (n : X) → Ascends cmp xs → Ascends cmp (insert_key cmp xs n)
  Ascends-insert_key total exact xs n up = subst (Ascends cmp) (sym (insert_key-with_item total exact xs n up)) (Ascends-with_item cmp total xs n up)

  less_kept : (xs : List X) (n : X) → AllByRecursion (λ y. cmp y n ≡ Less) xs → filter (λ y. is_lt (cmp y n)) xs ≡ xs
  less_kept [] n h = refl
  less_kept (x ∷ xs) n h = rw h.0 (ap (λ ys. x ∷ ys) (less_kept xs n h.1))

  less_not_greater : (xs : List X) (n : X) → AllByRecursion (λ y. cmp y n ≡ Less) xs → filter (λ y. is_gt (cmp y n)) xs ≡ []
  less_not_greater [] n h = refl
  less_not_greater (x ∷ xs) n h = rw h.0 (less_not_greater xs n h.1)

  in_middle : (x : X) (xs : List X) (n : X) (more : List X) → AllByRecursion (λ y. cmp x y ≡ Less) (xs ++ n ∷ more) → cmp x n ≡ Less
  in_middle x [] n more h = h.0
  in_middle x (y ∷ xs) n more h = in_middle x xs n more h.1

  before : (xs : List X) (n : X) (more : List X) → Ascends cmp (xs ++ n ∷ more) → AllByRecursion (λ y. cmp y n ≡ Less) xs
  before [] n more h = tt
  before (x ∷ xs) n more h = (in_middle x xs n more h.0, before xs n more h.1)

  -- an item that is above all goes to the end
  pub with_item-above : (xs : List X) (n : X) → AllByRecursion (λ y. cmp y n ≡ Less) xs → with_item cmp xs n ≡ xs ++ n ∷ []
  with_item-above xs n below = λ i. less_kept xs n below i ++ n ∷ less_not_greater xs n below i

  -- the next item of an ascending list goes to the end of those before it
  pub with_item-last : (xs : List X) (n : X) (more : List X) → Ascends cmp (xs ++ n ∷ more) → with_item cmp xs n ≡ xs ++ n ∷ []
  with_item-last xs n more up = with_item-above xs n (before xs n more up)

  strictly_ascends : (xs : List X) → IsStrictlySortedBy cmp xs → Ascends cmp xs
  unfolding IsStrictlySortedBy
  strictly_ascends [] h = tt
  strictly_ascends (x ∷ xs) h = (h.0, strictly_ascends xs h.1)

  pub with_item-next : (xs : List X) (n : X) (more : List X) → IsStrictlySortedBy cmp (xs ++ n ∷ more) → with_item cmp xs n ≡ xs ++ n ∷ []
  with_item-next xs n more up = with_item-last xs n more (strictly_ascends (xs ++ n ∷ more) up)
