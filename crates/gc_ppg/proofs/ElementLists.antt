-- Elements in ascending lists, and lists of identities.
use Rattle.std.proofs.Common.{◌≡◌, ℕ, Bool, true, false, cond, ◌||◌, ◌&&◌, ◌==◌, List, [], ◌∷◌, ◌++◌, map, refl, sym, ap, ◌∙◌, subst, Some, None, Option, append_assoc}
use Rattle.std.specs.declared.cmp.Ordering.{Ordering}
use Rattle.std.specs.declared.cmp.Ordering.TheVariants.{Less, Equal, Greater}
use Rattle.std.specs.Ordering.{nat_cmp, on, is_eq, is_lt, is_gt, MatchOrdering}
use Rattle.std.specs.Cmp.{nat_cmp_total, unsigned_tied, nat_eq_equiv}
use Rattle.std.specs.List.{AllByRecursion, filter, find, list_any}
use Rattle.std.proofs.lemmas.Bool.{eqb-true}
use Rattle.std.proofs.lemmas.List.{map-append}
use Rattle.gc_base.specs.Ascending.{Ascends, with_item}
use Rattle.gc_base.proofs.Search.{Rises, AllGreater, greater_kept, greater_not_less, rises}
use Rattle.gc_spec.specs.PropertyGraph.{is_among, AreDistinct}

pub or_false : (a b : Bool) → (a || b) ≡ false → (a ≡ false) × (b ≡ false)
or_false true b h = cc
or_false false b h = (refl, h)

pub or_right : (a b : Bool) → b ≡ true → (a || b) ≡ true
or_right true b h = refl
or_right false b h = h

or_turn : (a b c : Bool) → (a || (b || c)) ≡ (b || (a || c))
or_turn true true c = refl
or_turn true false c = refl
or_turn false true c = refl
or_turn false false c = refl

-- one item among others
pub list_any-around : {X : Type 0} (p : X → Bool) (xs ys : List X) (x : X) → list_any p (xs ++ x ∷ ys) ≡ (p x || list_any p (xs ++ ys))
list_any-around p [] ys x = refl
list_any-around p (y ∷ xs) ys x = ap (λ b. p y || b) (list_any-around p xs ys x) ∙ or_turn (p y) (p x) (list_any p (xs ++ ys))

pub list_any-map : {X Y : Type 0} (p : Y → Bool) (f : X → Y) (xs : List X) → list_any p (map f xs) ≡ list_any (λ x. p (f x)) xs
list_any-map p f [] = refl
list_any-map p f (x ∷ xs) = ap (λ b. p (f x) || b) (list_any-map p f xs)

or_none : (b : Bool) → (b || false) ≡ b
or_none true = refl
or_none false = refl

same_number : (a b : ℕ) → nat_cmp a b ≡ Equal → (a == b) ≡ true
same_number a b h = sym (unsigned_tied a b) ∙ ap is_eq h

-- an identity between others
pub AreDistinct-around : (xs ys : List ℕ) (x : ℕ) → AreDistinct (xs ++ ys) → is_among (xs ++ ys) x ≡ false → AreDistinct (xs ++ x ∷ ys)
AreDistinct-around [] ys x d f = (f, d)
AreDistinct-around (y ∷ xs) ys x d f =
    let fs = or_false (y == x) (is_among (xs ++ ys) x) f in (
      list_any-around (λ z. z == y) xs ys x ∙ (λ i. (nat_eq_equiv.symm x y ∙ fs.0) i || d.0 i),
      AreDistinct-around xs ys x d.1 fs.1,
    )

module _ {X : Type 0} (key : X → ℕ) where
  abbrev pub order : X → X → Ordering
  order = on key nat_cmp

  abbrev pub below : List X → X → List X
  below xs x = filter (λ y. is_lt (nat_cmp (key y) (key x))) xs

  abbrev pub above : List X → X → List X
  above xs x = filter (λ y. is_gt (nat_cmp (key y) (key x))) xs

  around_rises : (xs : List X) (x : X) → Rises (λ y. nat_cmp (key y) (key x)) xs → is_among (map key xs) (key x) ≡ false → below xs x ++ above xs x ≡ xs
  around_rises [] x r f = refl
  around_rises (y ∷ ys) x r f =
      let answer : X → Ordering = λ z. nat_cmp (key z) (key x) in
      let fs = or_false (key y == key x) (is_among (map key ys) (key x)) f in
      elim (nat_cmp (key y) (key x)) as
      (λ o. nat_cmp (key y) (key x) ≡ o → MatchOrdering o (Rises answer ys) (AllGreater answer ys) (AllGreater answer ys)
      → cond (is_lt o) (y ∷ below ys x) (below ys x) ++ cond (is_gt o) (y ∷ above ys x) (above ys x) ≡ y ∷ ys) [
        | Less ↦ λ e r. ap (λ zs. y ∷ zs) (around_rises ys x r fs.1)
        | Equal ↦ λ e r. let t = same_number (key y) (key x) e in absurd (cc (t, fs.0))
        | Greater ↦ λ e g. λ i. greater_not_less answer ys g i ++ y ∷ greater_kept answer ys g i
      ] refl r

  -- what stands before a new element and what stands after it are all
  pub around : (xs : List X) (x : X) → Ascends order xs → is_among (map key xs) (key x) ≡ false → below xs x ++ above xs x ≡ xs
  around xs x up f = around_rises xs x (rises key nat_cmp nat_cmp_total xs (key x) up) f

  -- what an element of the list with one more passes
  pub list_any-with_item : (p : X → Bool) (xs : List X) (x : X) → Ascends order xs → is_among (map key xs) (key x) ≡ false
      → list_any p (with_item order xs x) ≡ (p x || list_any p xs)
  list_any-with_item p xs x up f = list_any-around p (below xs x) (above xs x) x ∙ ap (λ ys. p x || list_any p ys) (around xs x up f)

  pub is_among-with_item : (xs : List X) (x : X) (q : ℕ) → Ascends order xs → is_among (map key xs) (key x) ≡ false
      → is_among (map key xs) q ≡ true → is_among (map key (with_item order xs x)) q ≡ true
  is_among-with_item xs x q up f h =
      list_any-map (λ k. k == q) key (with_item order xs x)
      ∙ (list_any-with_item (λ y. key y == q) xs x up f ∙ or_right _ _ (sym (list_any-map (λ k. k == q) key xs) ∙ h))

  parts : (A B : List ℕ) (ys zs : List X) → (A ++ map key (ys ++ zs)) ++ B ≡ (A ++ map key ys) ++ (map key zs ++ B)
  parts A B ys zs = ap (λ l. (A ++ l) ++ B) (map-append key ys zs) ∙ simp append_assoc

  -- a new identity that is none of the others leaves all distinct
  pub AreDistinct-with_item : (A B : List ℕ) (xs : List X) (x : X) → Ascends order xs → is_among ((A ++ map key xs) ++ B) (key x) ≡ false
      → is_among (map key xs) (key x) ≡ false → AreDistinct ((A ++ map key xs) ++ B) → AreDistinct ((A ++ map key (with_item order xs x)) ++ B)
  AreDistinct-with_item A B xs x up f fx d =
      let whole : (A ++ map key xs) ++ B ≡ (A ++ map key (below xs x)) ++ (map key (above xs x) ++ B) =
      ap (λ ys. (A ++ map key ys) ++ B) (sym (around xs x up fx)) ∙ parts A B (below xs x) (above xs x) in
      subst AreDistinct (sym (parts A B (below xs x) (x ∷ above xs x)))
      (AreDistinct-around (A ++ map key (below xs x)) (map key (above xs x) ++ B) (key x) (subst AreDistinct whole d) (ap (λ l. is_among l (key x)) (sym whole) ∙ f))

  -- whether one of them has this identity and passes a test
  abbrev pub passes_at : (X → Bool) → Option X → Bool
  passes_at test None = false
  passes_at test (Some x) = test x

  none_passes : (test : X → Bool) (x : X) (xs : List X) (q : ℕ) → key x ≡ q → AllByRecursion (λ y. order x y ≡ Less) xs → list_any (λ y. (key y == q) && test y) xs ≡ false
  none_passes test x [] q e h = refl
  none_passes test x (y ∷ ys) q e h =
      let other : (key y == q) ≡ false = nat_eq_equiv.symm (key y) q ∙ (ap (λ k. k == key y) (sym e) ∙ (sym (unsigned_tied (key x) (key y)) ∙ ap is_eq h.0)) in
      λ i. (other i && test y) || none_passes test x ys q e h.1 i

  pub list_any-find : (test : X → Bool) (xs : List X) (q : ℕ) → Ascends order xs → list_any (λ y. (key y == q) && test y) xs ≡ passes_at test (find (λ y. key y == q) xs)
  list_any-find test [] q up = refl
  list_any-find test (x ∷ xs) q up =
      elim (key x == q) as (λ b. (key x == q) ≡ b → ((b && test x) || list_any (λ y. (key y == q) && test y) xs) ≡ passes_at test (cond b (Some x) (find (λ y. key y == q) xs))) [
        | true ↦ λ e. ap (λ b. test x || b) (none_passes test x xs q (eqb-true (key x) q e) up.0) ∙ or_none (test x)
        | false ↦ λ e. list_any-find test xs q up.1
      ] refl
