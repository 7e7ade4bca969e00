-- Transitions that are among others.
use Rattle.std.proofs.Common.{◌≡◌, ℕ, List, [], ◌∷◌, ◌++◌, ◌⊎◌, inl, inr, refl, sym, ap, subst, arith}
use Rattle.std.specs.List.{Contains}
use Rattle.std.proofs.lemmas.List.Elements.{Contains-append_left, Contains-append_right, Contains-append_cases, Contains-push_cases}

module _ {X : Type 0} where
  -- a list has all that another has
  pub Includes : List X → List X → Type 0
  Includes xs ys = (x : X) → Contains ys x → Contains xs x

  pub includes_itself : (xs : List X) → Includes xs xs
  unfolding Includes
  includes_itself xs x h = h

  pub includes_front : (xs front back : List X) → Includes xs (front ++ back) → Includes xs front
  unfolding Includes
  includes_front xs front back all x h = all x (Contains-append_left front back x h)

  pub includes_back : (xs front back : List X) → Includes xs (front ++ back) → Includes xs back
  unfolding Includes
  includes_back xs front back all x h = all x (Contains-append_right front back x h)

  pub includes_tail : (xs : List X) (y : X) (ys : List X) → Includes xs (y ∷ ys) → Includes xs ys
  includes_tail xs y ys = includes_back xs (y ∷ []) ys

  contains_first : (y : X) (ys : List X) → Contains (y ∷ ys) y
  contains_first y ys = (0, omega arith, refl)

  pub includes_first : (xs : List X) (y : X) (ys : List X) → Includes xs (y ∷ ys) → Contains xs y
  unfolding Includes
  includes_first xs y ys all = all y (contains_first y ys)

  -- nothing is among none, and what is among a list is its first item or one behind it
  none_among : (x : X) → Contains [] x → ⊥
  none_among x h = absurd (omega (arith, h.1))

  alone : (y x : X) → Contains [] x ⊎ (y ≡ x) → y ≡ x
  alone y x (inl h) = absurd (none_among x h)
  alone y x (inr h) = h

  first_or : (y x : X) (ys : List X) → Contains (y ∷ []) x ⊎ Contains ys x → (y ≡ x) ⊎ Contains ys x
  first_or y x ys (inl h) = inl (alone y x (Contains-push_cases [] y x h))
  first_or y x ys (inr h) = inr h

  pub among_more : (y : X) (ys : List X) (x : X) → Contains (y ∷ ys) x → (y ≡ x) ⊎ Contains ys x
  among_more y ys x h = first_or y x ys (Contains-append_cases (y ∷ []) ys x h)

  pub among_none : (x : X) → Contains [] x → ⊥
  among_none = none_among
