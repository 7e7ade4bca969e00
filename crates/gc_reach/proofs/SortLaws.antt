-- What sorting leaves of some identities, each once.
use Rattle.std.proofs.Common.{◌≡◌, ℕ, List, [], ◌∷◌, sym, subst}
use Rattle.std.specs.declared.cmp.Ordering.{Ordering}
use Rattle.std.specs.Ordering.{nat_cmp}
use Rattle.std.specs.List.{Contains, dedup}
use Rattle.std.specs.List.Sorted.{IsPermutation, IsSorted, IsStrictlySortedBy}
use Rattle.std.proofs.Math.Dec.{eqb}
use Rattle.std.proofs.lemmas.List.Kept.{Contains-dedup_nat, Contains-from_dedup}
use Rattle.std.proofs.lemmas.List.Sorted.{Contains-permutation, IsPermutation-sym}
use Rattle.std.proofs.lemmas.Map.Keys.{IsStrictlyIncreasing-dedup, sorted_from_strictly_increasing}
use Rattle.gc_base.specs.Ascending.{Ascends}
use Rattle.gc_prod.proofs.BundleLaws.{all_from}
use Rattle.gc_reach.specs.Reached.{AreThose}

Ascends-strict : {X : Type 0} (cmp : X → X → Ordering) (xs : List X) → IsStrictlySortedBy cmp xs → Ascends cmp xs
unfolding IsStrictlySortedBy
Ascends-strict cmp [] h = tt
Ascends-strict cmp (x ∷ xs) h = (h.0, Ascends-strict cmp xs h.1)

pub those_sorted : (ids sorted left : List ℕ) → IsPermutation ids sorted → IsSorted nat_cmp sorted → left ≡ dedup eqb sorted → AreThose (Contains ids) left
those_sorted ids sorted left moved in_order is = record {
  ascend = subst (Ascends nat_cmp) (sym is) (Ascends-strict nat_cmp _ (sorted_from_strictly_increasing _ (IsStrictlyIncreasing-dedup sorted in_order)));
  sound = all_from (Contains ids) left (λ x m. Contains-permutation sorted ids x (IsPermutation-sym ids sorted moved) (Contains-from_dedup eqb sorted x (subst (λ (xs : List ℕ). Contains xs x) is m)));
  complete = λ x m. subst (λ (xs : List ℕ). Contains xs x) (sym is) (Contains-dedup_nat sorted x (Contains-permutation ids sorted x moved m));
}
