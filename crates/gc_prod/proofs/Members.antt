-- What is among the items that are chosen, changed or put together.
use Rattle.std.proofs.Common.{◌≡◌, ℕ, Bool, true, false, cond, ◌||◌, ◌==◌, List, [], ◌∷◌, ◌++◌, ◌⊎◌, inl, inr, map, refl, sym, ap, subst, ◌∙◌, arith}
use Rattle.std.specs.List.{Contains, filter, flat_map, list_any}
use Rattle.std.proofs.lemmas.Bool.{eq-eqb}
use Rattle.std.proofs.lemmas.Bool.Decides.{nat_tests}
use Rattle.std.proofs.lemmas.List.Elements.{Contains-append_left, Contains-append_right, Contains-append_cases}
use Rattle.gc_automata.proofs.Inclusion.{among_more, among_none}

module _ {X : Type 0} where
  pub here : (x : X) (xs : List X) → Contains (x ∷ xs) x
  here x xs = (0, omega arith, refl)

  pub there : (y : X) (xs : List X) (x : X) → Contains xs x → Contains (y ∷ xs) x
  there y xs x h = Contains-append_right (y ∷ []) xs x h

-- an item that passes
pub record Passes {X : Type 0} (p : X → Bool) (xs : List X) (x : X) : Type 0 where
  pub among : Contains xs x
  pub passes : p x ≡ true

module _ {X : Type 0} (p : X → Bool) where
  pub in_filter : (xs : List X) (x : X) → Passes p xs x → Contains (filter p xs) x
  in_filter [] x h = absurd (among_none x h.among)
  in_filter (y ∷ xs) x h = by (in_filter xs x) (among_more y xs x h.among)
    where
      by : (Passes p xs x → Contains (filter p xs) x) → (y ≡ x) ⊎ Contains xs x → Contains (filter p (y ∷ xs)) x
      by next (inl same) =
          let passes : p y ≡ true = ap p same ∙ h.passes in
          subst (λ b. Contains (cond b (y ∷ filter p xs) (filter p xs)) x) (sym passes) (subst (λ z. Contains (y ∷ filter p xs) z) same (here y (filter p xs)))
      by next (inr behind) =
          let kept = next (record { among = behind; passes = h.passes }) in
          elim (p y) as (λ b. Contains (cond b (y ∷ filter p xs) (filter p xs)) x) [ true ↦ there y (filter p xs) x kept | false ↦ kept ]

  pub from_filter : (xs : List X) (x : X) → Contains (filter p xs) x → Passes p xs x
  from_filter [] x h = absurd (among_none x h)
  from_filter (y ∷ xs) x h = first (from_filter xs x) (p y) refl h
    where
      behind : Passes p xs x → Passes p (y ∷ xs) x
      behind k = record { among = there y xs x k.among; passes = k.passes }

      by : (Contains (filter p xs) x → Passes p xs x) → p y ≡ true → (y ≡ x) ⊎ Contains (filter p xs) x → Passes p (y ∷ xs) x
      by next passes (inl same) = record { among = subst (λ z. Contains (y ∷ xs) z) same (here y xs); passes = ap p (sym same) ∙ passes }
      by next passes (inr k) = behind (next k)

      first : (Contains (filter p xs) x → Passes p xs x) → (b : Bool) → p y ≡ b → Contains (cond b (y ∷ filter p xs) (filter p xs)) x → Passes p (y ∷ xs) x
      first next true passes k = by next passes (among_more y (filter p xs) x k)
      first next false fails k = behind (next k)

-- an item that is what a function makes of one
pub record Image {X Y : Type 0} (f : X → Y) (xs : List X) (y : Y) : Type 0 where
  pub origin : X
  pub among : Contains xs origin
  pub is : f origin ≡ y

module _ {X Y : Type 0} (f : X → Y) where
  pub in_map : (xs : List X) (x : X) → Contains xs x → Contains (map f xs) (f x)
  in_map [] x h = absurd (among_none x h)
  in_map (y ∷ xs) x h = by (in_map xs x) (among_more y xs x h)
    where
      by : (Contains xs x → Contains (map f xs) (f x)) → (y ≡ x) ⊎ Contains xs x → Contains (f y ∷ map f xs) (f x)
      by next (inl same) = subst (λ z. Contains (f y ∷ map f xs) (f z)) same (here (f y) (map f xs))
      by next (inr behind) = there (f y) (map f xs) (f x) (next behind)

  pub from_map : (xs : List X) (y : Y) → Contains (map f xs) y → Image f xs y
  from_map [] y h = absurd (among_none y h)
  from_map (x ∷ xs) y h = by (from_map xs y) (among_more (f x) (map f xs) y h)
    where
      later : Image f xs y → Image f (x ∷ xs) y
      later k = record { origin = k.origin; among = there x xs k.origin k.among; is = k.is }

      by : (Contains (map f xs) y → Image f xs y) → (f x ≡ y) ⊎ Contains (map f xs) y → Image f (x ∷ xs) y
      by next (inl same) = record { origin = x; among = here x xs; is = same }
      by next (inr behind) = later (next behind)

-- an item of one of the lists that are put together
pub record PartOf {X Y : Type 0} (f : X → List Y) (xs : List X) (y : Y) : Type 0 where
  pub origin : X
  pub among : Contains xs origin
  pub part : Contains (f origin) y

module _ {X Y : Type 0} (f : X → List Y) where
  pub in_flat_map : (xs : List X) (y : Y) → PartOf f xs y → Contains (flat_map f xs) y
  in_flat_map [] y h = absurd (among_none h.origin h.among)
  in_flat_map (x ∷ xs) y h = by (in_flat_map xs y) (among_more x xs h.origin h.among)
    where
      by : (PartOf f xs y → Contains (flat_map f xs) y) → (x ≡ h.origin) ⊎ Contains xs h.origin → Contains (f x ++ flat_map f xs) y
      by next (inl same) = Contains-append_left (f x) (flat_map f xs) y (subst (λ z. Contains (f z) y) (sym same) h.part)
      by next (inr behind) = Contains-append_right (f x) (flat_map f xs) y (next (record { origin = h.origin; among = behind; part = h.part }))

  pub from_flat_map : (xs : List X) (y : Y) → Contains (flat_map f xs) y → PartOf f xs y
  from_flat_map [] y h = absurd (among_none y h)
  from_flat_map (x ∷ xs) y h = by (from_flat_map xs y) (Contains-append_cases (f x) (flat_map f xs) y h)
    where
      later : PartOf f xs y → PartOf f (x ∷ xs) y
      later k = record { origin = k.origin; among = there x xs k.origin k.among; part = k.part }

      by : (Contains (flat_map f xs) y → PartOf f xs y) → Contains (f x) y ⊎ Contains (flat_map f xs) y → PartOf f (x ∷ xs) y
      by next (inl part) = record { origin = x; among = here x xs; part = part }
      by next (inr behind) = later (next behind)

true_or : (a b : Bool) → a ≡ true → (a || b) ≡ true
true_or a b h = ap (λ x. x || b) h

or_true : (a b : Bool) → b ≡ true → (a || b) ≡ true
or_true true b h = refl
or_true false b h = h

eqb_same : (a b : ℕ) → (a == b) ≡ true → a ≡ b
eqb_same a b h = grind (arith, nat_tests)

-- an item of a key is there where the key is among all keys
module _ {X : Type 0} (key : X → ℕ) where
  pub key_there : (xs : List X) (x : X) → Contains xs x → list_any (λ other. other == key x) (map key xs) ≡ true
  key_there [] x h = absurd (among_none x h)
  key_there (y ∷ xs) x h = by (key_there xs x) (among_more y xs x h)
    where
      by : (Contains xs x → list_any (λ other. other == key x) (map key xs) ≡ true) → (y ≡ x) ⊎ Contains xs x → list_any (λ other. other == key x) (map key (y ∷ xs)) ≡ true
      by next (inl same) = true_or (key y == key x) _ (eq-eqb (key y) (key x) (ap key same))
      by next (inr behind) = or_true (key y == key x) _ (next behind)

  pub there_key : (xs : List X) (id : ℕ) → list_any (λ other. other == id) (map key xs) ≡ true → Image key xs id
  there_key [] id h = cc
  there_key (x ∷ xs) id h = by (there_key xs id) (key x == id) refl h
    where
      later : Image key xs id → Image key (x ∷ xs) id
      later k = record { origin = k.origin; among = there x xs k.origin k.among; is = k.is }

      by : (list_any (λ other. other == id) (map key xs) ≡ true → Image key xs id) → (b : Bool) → (key x == id) ≡ b → (b || list_any (λ other. other == id) (map key xs)) ≡ true → Image key (x ∷ xs) id
      by next true same k = record { origin = x; among = here x xs; is = eqb_same (key x) id same }
      by next false differs k = later (next k)
