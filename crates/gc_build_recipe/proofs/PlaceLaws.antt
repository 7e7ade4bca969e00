-- The place of what is of a variable, and the item that stands there.
use Rattle.std.proofs.Common.{◌≡◌, ℕ, suc, ◌+◌, ◌==◌, Bool, true, false, cond, List, [], ◌∷◌, ◌++◌, length, Option, Some, None, is_some, refl, sym, ap, ◌∙◌, subst, arith, slice_get, nat_eq}
use Rattle.std.proofs.lemmas.Bool.Decides.{nat_tests}
use Rattle.std.specs.List.{find}
use Rattle.std.specs.Option.{option_and_then, option_map}
use Rattle.gc_base.specs.declared.place.Sym.{Sym}
use Rattle.gc_build_recipe.specs.Places.{place_of}

same_number : (m n : ℕ) → (m == n) ≡ true → m ≡ n
same_number m n h = grind (arith, nat_tests)

-- a place, or that of an item more, which is one of the variable or not
abbrev with_place : Option ℕ → (is_of : Bool) → (place : ℕ) → Option ℕ
with_place None is_of place = cond is_of (Some place) None
with_place (Some first) is_of place = Some first

with_next : (o : Option ℕ) (b : Bool) (k : ℕ) → option_map (λ place. place + 1) (with_place o b k) ≡ with_place (option_map (λ place. place + 1) o) b (k + 1)
with_next None true k = refl
with_next None false k = refl
with_next (Some i) b k = refl

new_place : (o : Option ℕ) (b : Bool) (k : ℕ) → (b ≡ true → is_some o ≡ false) → cond b (Some k) o ≡ with_place o b k
new_place None true k h = refl
new_place (Some i) true k h = absurd (cc (h refl))
new_place None false k h = refl
new_place (Some i) false k h = refl

old_place : (o : Option ℕ) (b : Bool) (k : ℕ) → (b ≡ true → is_some o ≡ true) → o ≡ with_place o b k
old_place None true k h = absurd (cc (h refl))
old_place (Some i) true k h = refl
old_place None false k h = refl
old_place (Some i) false k h = refl

module _ {X : Type 0} (var : X → Sym) where
  later : (x : X) (xs : List X) (o : Option ℕ) → option_and_then (slice_get xs) o ≡ option_and_then (slice_get (x ∷ xs)) (option_map (λ place. place + 1) o)
  later x xs None = refl
  later x xs (Some i) = let e : i + 1 ≡ suc i = omega arith in sym (ap (slice_get (x ∷ xs)) e)

  found : (x : X) (xs : List X) (o : Option X) (p : Option ℕ) (b : Bool) → o ≡ option_and_then (slice_get xs) p
      → cond b (Some x) o ≡ option_and_then (slice_get (x ∷ xs)) (cond b (Some 0) (option_map (λ place. place + 1) p))
  found x xs o p true h = refl
  found x xs o p false h = h ∙ later x xs p

  -- what is found of a variable stands at its place
  pub found_at : (xs : List X) (n : ℕ) → find (λ x. (var x).0 == n) xs ≡ option_and_then (slice_get xs) (place_of var xs n)
  found_at [] n = refl
  found_at (x ∷ xs) n = found x xs (find (λ y. (var y).0 == n) xs) (place_of var xs n) ((var x).0 == n) (found_at xs n)

  placed : (xs : List X) (a b : Bool) (whole part : Option ℕ) → whole ≡ with_place part b (length xs)
      → cond a (Some 0) (option_map (λ place. place + 1) whole) ≡ with_place (cond a (Some 0) (option_map (λ place. place + 1) part)) b (length xs + 1)
  placed xs true b whole part h = refl
  placed xs false b whole part h = ap (option_map (λ place. place + 1)) h ∙ with_next part b (length xs)

  place_with : (xs : List X) (y : X) (n : ℕ) → place_of var (xs ++ y ∷ []) n ≡ with_place (place_of var xs n) ((var y).0 == n) (length xs)
  place_with [] y n = refl
  place_with (x ∷ xs) y n =
      placed xs ((var x).0 == n) ((var y).0 == n) (place_of var (xs ++ y ∷ []) n) (place_of var xs n) (place_with xs y n)
      ∙ ap (with_place (place_of var (x ∷ xs) n) ((var y).0 == n)) (omega arith)

  module _ (xs : List X) (y : X) (get : ℕ → Option ℕ) (are : (n : ℕ) → get n ≡ place_of var xs n) where
    there : (n : ℕ) (b : Bool) → is_some (get (var y).0) ≡ b → ((var y).0 == n) ≡ true → is_some (place_of var xs n) ≡ b
    there n b h e = subst (λ k. is_some (place_of var xs k) ≡ b) (same_number (var y).0 n e) (ap is_some (sym (are (var y).0)) ∙ h)

    -- one item more, which is the first of its variable
    pub first_added : (added : ℕ → Option ℕ) → is_some (get (var y).0) ≡ false → ((n : ℕ) → added n ≡ cond (nat_eq (var y).0 n) (Some (length xs)) (get n))
        → (n : ℕ) → added n ≡ place_of var (xs ++ y ∷ []) n
    first_added added new h n =
        h n ∙ ap (cond ((var y).0 == n) (Some (length xs))) (are n)
        ∙ new_place (place_of var xs n) ((var y).0 == n) (length xs) (there n false new)
        ∙ sym (place_with xs y n)

    -- or is not
    pub other_added : is_some (get (var y).0) ≡ true → (n : ℕ) → get n ≡ place_of var (xs ++ y ∷ []) n
    other_added known n =
        are n ∙ old_place (place_of var xs n) ((var y).0 == n) (length xs) (there n true known) ∙ sym (place_with xs y n)
