-- What is found by its identity in ascending lists.
use Rattle.std.proofs.Common.{◌≡◌, ℕ, Bool, true, false, cond, ◌==◌, List, [], ◌∷◌, Option, Some, None, refl, sym, ap, ◌∙◌, subst}
use Rattle.std.specs.Cmp.{nat_eq_equiv, unsigned_tied}
use Rattle.std.specs.List.{AllByRecursion, filter, find}
use Rattle.std.specs.Ordering.{nat_cmp, on, is_eq}
use Rattle.std.specs.declared.cmp.Ordering.TheVariants.{Less}
use Rattle.std.proofs.lemmas.Bool.{eqb-true}
use Rattle.gc_base.specs.Ascending.{Ascends}
use Rattle.gc_base.proofs.SetLaws.{AllByRecursion-filter}

pub injective : {X : Type 0} (x y : X) → Some x ≡ Some y → x ≡ y
injective x y e = cc e

module _ {X : Type 0} (key : X → ℕ) where
  abbrev pub found : List X → ℕ → Option X
  found xs q = find (λ x. key x == q) xs

  -- what is found has what all have
  pub found_has : (P : X → Type 0) (xs : List X) (q : ℕ) (x : X) → AllByRecursion P xs → found xs q ≡ Some x → P x
  found_has P [] q x h e = absurd (cc e)
  found_has P (y ∷ ys) q x h e =
      elim (key y == q) as (λ b. cond b (Some y) (found ys q) ≡ Some x → P x) [
        | true ↦ λ k. subst P (injective y x k) h.0
        | false ↦ λ k. found_has P ys q x h.1 k
      ] e

  pub found_key : (xs : List X) (q : ℕ) (x : X) → found xs q ≡ Some x → key x ≡ q
  found_key [] q x e = absurd (cc e)
  found_key (y ∷ ys) q x e =
      elim (key y == q) as (λ b. (key y == q) ≡ b → cond b (Some y) (found ys q) ≡ Some x → key x ≡ q) [
        | true ↦ λ t k. ap key (sym (injective y x k)) ∙ eqb-true (key y) q t
        | false ↦ λ t k. found_key ys q x k
      ] refl e

  pub none_after : (x : X) (q : ℕ) (ys : List X) → (key x == q) ≡ true → AllByRecursion (λ y. on key nat_cmp x y ≡ Less) ys → found ys q ≡ None
  none_after x q [] t h = refl
  none_after x q (y ∷ ys) t h =
      let apart : (key y == q) ≡ false = nat_eq_equiv.symm (key y) q ∙ (ap (λ k. k == key y) (sym (eqb-true (key x) q t)) ∙ (sym (unsigned_tied (key x) (key y)) ∙ ap is_eq h.0)) in
      ap (λ b. cond b (Some y) (found ys q)) apart ∙ none_after x q ys t h.1

  -- a filter keeps what is found if it passes
  pub found_filter : (p : X → Bool) (xs : List X) (q : ℕ) (x : X) → Ascends (on key nat_cmp) xs → found (filter p xs) q ≡ Some x → found xs q ≡ Some x
  found_filter p [] q x up e = e
  found_filter p (y ∷ ys) q x up e =
      elim (key y == q) as (λ b. (key y == q) ≡ b → cond b (Some y) (found ys q) ≡ Some x) [
        | true ↦ λ t.
            elim (p y) as (λ k. found (cond k (y ∷ filter p ys) (filter p ys)) q ≡ Some x → Some y ≡ Some x) [
              | true ↦ λ h. ap (λ b. cond b (Some y) (found (filter p ys) q)) (sym t) ∙ h
              | false ↦ λ h. let none = none_after y q (filter p ys) t (AllByRecursion-filter _ p ys up.0) in absurd (cc (none, h))
            ] e
        | false ↦ λ t.
            elim (p y) as (λ k. found (cond k (y ∷ filter p ys) (filter p ys)) q ≡ Some x → found ys q ≡ Some x) [
              | true ↦ λ h. found_filter p ys q x up.1 (ap (λ b. cond b (Some y) (found (filter p ys) q)) (sym t) ∙ h)
              | false ↦ λ h. found_filter p ys q x up.1 h
            ] e
      ] refl
