-- What sorting leaves of a list, each item once.
use Rattle.std.proofs.Common.{◌≡◌, ℕ, true, List, [], ◌∷◌, refl, sym, subst}
use Rattle.std.specs.declared.cmp.Ordering.{Ordering}
use Rattle.std.specs.declared.cmp.Ordering.TheVariants.{Less, Equal, Greater}
use Rattle.std.specs.Ordering.{is_eq, eq_by_cmp, nat_cmp}
use Rattle.std.specs.List.{Contains, dedup}
use Rattle.std.specs.List.Sorted.{IsPermutation, IsSorted, IsStrictlySortedBy}
use Rattle.std.specs.Cmp.{IsTotalOrder, eq_by_cmp_equiv}
use Rattle.std.specs.FinMap.{IsAntisymmetric}
use Rattle.std.proofs.Math.Dec.{eqb}
use Rattle.std.proofs.lemmas.List.Kept.{Any-dedup, Contains-dedup_nat, Contains-from_dedup, IsStrictlySortedBy-dedup}
use Rattle.std.proofs.lemmas.List.Sorted.{Contains-permutation, IsPermutation-sym}
use Rattle.std.proofs.lemmas.Map.Keys.{IsStrictlyIncreasing-dedup, sorted_from_strictly_increasing}
use Rattle.gc_base.specs.Ascending.{Ascends}
use Rattle.gc_rows.specs.Tables.{HasExactly}

pub Ascends-strict : {X : Type 0} (cmp : X → X → Ordering) (xs : List X) → IsStrictlySortedBy cmp xs → Ascends cmp xs
unfolding IsStrictlySortedBy
Ascends-strict cmp [] h = tt
Ascends-strict cmp (x ∷ xs) h = (h.0, Ascends-strict cmp xs h.1)

pub tie_is : (o : Ordering) → is_eq o ≡ true → o ≡ Equal
tie_is Less h = cc
tie_is Equal h = refl
tie_is Greater h = cc

module _ {X : Type 0} (cmp : X → X → Ordering) (total : IsTotalOrder cmp) (exact : IsAntisymmetric cmp)
    (items sorted left : List X) (moved : IsPermutation items sorted) (in_order : IsSorted cmp sorted) (is : left ≡ dedup (eq_by_cmp cmp) sorted) where
  complete : (x : X) → Contains items x → Contains left x
  complete x h =
      let kept = Any-dedup (eq_by_cmp_equiv total) sorted x (Contains-permutation items sorted x moved h) in
      let other : X = kept.1 in
      let there : Contains left other = subst (λ xs. Contains xs other) (sym is) (kept.0, kept.2, kept.3) in
      let same : x ≡ other = exact x other (tie_is _ kept.4) in
      subst (Contains left) (sym same) there

  pub sorted_ascend : Ascends cmp left
  sorted_ascend = subst (Ascends cmp) (sym is) (Ascends-strict cmp _ (IsStrictlySortedBy-dedup total (λ x y. refl) sorted in_order))

  pub sorted_exact : HasExactly items left
  sorted_exact = record {
    sound = λ x h. Contains-permutation sorted items x (IsPermutation-sym items sorted moved) (Contains-from_dedup (eq_by_cmp cmp) sorted x (subst (λ xs. Contains xs x) is h));
    complete = complete;
  }

-- numbers in order, each once
module _ (ids sorted left : List ℕ) (moved : IsPermutation ids sorted) (in_order : IsSorted nat_cmp sorted) (is : left ≡ dedup eqb sorted) where
  pub numbers_ascend : Ascends nat_cmp left
  numbers_ascend = subst (Ascends nat_cmp) (sym is) (Ascends-strict nat_cmp _ (sorted_from_strictly_increasing _ (IsStrictlyIncreasing-dedup sorted in_order)))

  pub numbers_exact : HasExactly ids left
  numbers_exact = record {
    sound = λ x m. Contains-permutation sorted ids x (IsPermutation-sym ids sorted moved) (Contains-from_dedup eqb sorted x (subst (λ xs. Contains xs x) is m));
    complete = λ x m. subst (λ xs. Contains xs x) (sym is) (Contains-dedup_nat sorted x (Contains-permutation ids sorted x moved m));
  }
