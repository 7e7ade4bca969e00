-- What a test of each item tells.
use Rattle.std.proofs.Common.{◌≡◌, ◌==◌, arith, Bool, true, false, ◌&&◌, List, [], ◌∷◌, refl, sym, ap, length, get_or, ◌<◌, subst, ◌∙◌, drop, ℕ, ◌+◌, Some}
use Rattle.std.specs.List.{AllByRecursion, list_all, slice_get}
use Rattle.std.proofs.lemmas.Bool.Decides.{nat_tests}
use Rattle.std.proofs.lemmas.Option.{slice_get-get_or}
use Rattle.gc_prod.proofs.HopLists.{left_at}

pub both : (a b : Bool) → (a && b) ≡ true → (a ≡ true) × (b ≡ true)
both true b h = (refl, h)
both false b h = cc

pub eqb_same : (a b : ℕ) → (a == b) ≡ true → a ≡ b
eqb_same a b h = grind (arith, nat_tests)

module _ {X : Type 0} (p : X → Bool) (P : X → Type 0) where
  pub tested_all : ((x : X) → p x ≡ true → P x) → (xs : List X) → list_all p xs ≡ true → AllByRecursion P xs
  tested_all is [] h = tt
  tested_all is (x ∷ xs) h = let parts = both (p x) (list_all p xs) h in (is x parts.0, tested_all is xs parts.1)

  pub all_tested : ((x : X) → P x → p x ≡ true) → (xs : List X) → AllByRecursion P xs → list_all p xs ≡ true
  all_tested is [] h = refl
  all_tested is (x ∷ xs) h = rw (is x h.0) (all_tested is xs h.1)

-- all is so where what is left at a place is so, as long as what stood before it was so
module _ {X : Type 0} (P : X → Type 0) where
  pub record AreLeft (xs : List X) (i : ℕ) : Type 0 where
    pub on : AllByRecursion P (drop i xs) → AllByRecursion P xs
    pub back : AllByRecursion P xs → AllByRecursion P (drop i xs)

  pub left_more : (xs : List X) (i : ℕ) (x : X) → slice_get xs i ≡ Some x → P x → AreLeft xs i → AreLeft xs (i + 1)
  left_more xs i x at is left = record {
    on = λ h. left.on (subst (AllByRecursion P) (sym (left_at xs i x at)) (is, h));
    back = λ h. (subst (AllByRecursion P) (left_at xs i x at) (left.back h)).1;
  }

  pub left_fails : (xs : List X) (i : ℕ) (x : X) → slice_get xs i ≡ Some x → (P x → ⊥) → AreLeft xs i → AllByRecursion P xs → ⊥
  left_fails xs i x at fails left h = fails (subst (AllByRecursion P) (left_at xs i x at) (left.back h)).0

-- what a loop reads at a place stands there
pub read_at : {X : Type 0} (xs : List X) (i : ℕ) (x : X) → i < length xs → x ≡ get_or xs i x → slice_get xs i ≡ Some x
read_at xs i x below is = slice_get-get_or xs i x below ∙ ap Some (sym is)
