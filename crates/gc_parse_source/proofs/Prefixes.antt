-- Fronts of lists that grow by one item.
use Rattle.std.proofs.Common.{◌≡◌, ap, ◌∙◌, ℕ, zero, suc, ◌+◌, List, [], ◌∷◌, ◌++◌, take, slice_get, Some}
use native.Mathlib.Omega.{arith}

-- one item more
pub take_snoc : {A : Type 0} (xs : List A) (i : ℕ) (x : A) → slice_get xs i ≡ Some x → take (i + 1) xs ≡ take i xs ++ x ∷ []
take_snoc [] i x h = absurd (cc)
take_snoc (y ∷ xs) zero x h = ap (λ z. z ∷ []) (found h)
  where
    found : Some y ≡ Some x → y ≡ x
    found e = cc
take_snoc (y ∷ xs) (suc i) x h =
    ap (λ n. take n (y ∷ xs)) {x = suc i + 1} {y = suc (i + 1)} (omega arith) ∙ ap (λ rest. y ∷ rest) (take_snoc xs i x h)
