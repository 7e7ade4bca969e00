-- One turn of a loop that adds what one more element gives.
use Rattle.std.proofs.Common.{Bor, ◌≡◌, ℕ, ◌+◌, ◌<◌, ◌==◌, Bool, true, false, not, cond, ◌||◌, Option, List, [], ◌∷◌, ◌++◌, length, drop, map, Some, None, is_some, refl, ap, sym, ◌∙◌, append_assoc, add-one, suc}
use Rattle.std.specs.List.{slice_get, filter, find}
use Rattle.std.specs.Option.{option_copied}
use Rattle.std.proofs.Math.Seq.{drop-cons}
use Rattle.std.proofs.lemmas.Option.{slice_get_within, get_or_from_slice_get}
use Rattle.gc_spec.specs.PropertyGraph.{is_among}
use Rattle.gc_sets.specs.Elements.{others}

pub next_first : {X : Type 0} (xs : List X) (i : ℕ) (x : X) → slice_get xs i ≡ Some x → drop i xs ≡ x ∷ drop (i + 1) xs
next_first xs i x found =
    let within : i < length xs = slice_get_within xs i x found in
    rw (add-one, drop-cons xs i x) (ap (λ y. y ∷ drop (suc i) xs) (get_or_from_slice_get xs i x x found))

-- a function of lists that goes element by element
abbrev pub IsByElement : {X Y : Type 0} → (List X → List Y) → Type 0
IsByElement {X} f = (x : X) (xs : List X) → f (x ∷ xs) ≡ f (x ∷ []) ++ f xs

pub turn : {X Y : Type 0} (f : List X → List Y) → IsByElement f → (xs : List X) (i : ℕ) (x : X) (old now all : List Y)
    → slice_get xs i ≡ Some x → now ≡ old ++ f (x ∷ []) → old ++ f (drop i xs) ≡ all → now ++ f (drop (i + 1) xs) ≡ all
turn f each xs i x old now all found added so_far =
    let rest = f (drop (i + 1) xs) in
    ap (λ ys. ys ++ rest) added
    ∙ (append_assoc old (f (x ∷ [])) rest
    ∙ (ap (λ ys. old ++ ys) (sym (each x (drop (i + 1) xs))) ∙ (ap (λ ys. old ++ f ys) (sym (next_first xs i x found)) ∙ so_far)))

filter-by_element : {X : Type 0} (p : X → Bool) → IsByElement (filter p)
filter-by_element p x xs =
    elim (p x) as (λ b. cond b (x ∷ filter p xs) (filter p xs) ≡ cond b (x ∷ []) [] ++ filter p xs) [
      | true ↦ refl
      | false ↦ refl
    ]

pub others-by_element : {X : Type 0} (id_of : X → ℕ) (ys : List X) → IsByElement (λ xs. others id_of xs ys)
others-by_element id_of ys = filter-by_element _

some_of_cond : {X : Type 0} (b : Bool) (x : X) (o : Option X) → is_some (cond b (Some x) o) ≡ (b || is_some o)
some_of_cond true x o = refl
some_of_cond false x o = refl

module _ {X : Type 0} (key : X → ℕ) where
  pub found-is_among : (xs : List X) (q : ℕ) → is_some (find (λ x. key x == q) xs) ≡ is_among (map key xs) q
  found-is_among [] q = refl
  found-is_among (x ∷ xs) q = some_of_cond (key x == q) x (find (λ y. key y == q) xs) ∙ ap (λ b. (key x == q) || b) (found-is_among xs q)

  not_not : (a b : Bool) → a ≡ not b → not a ≡ b
  not_not true true h = absurd (cc h)
  not_not true false h = refl
  not_not false true h = refl
  not_not false false h = absurd (cc h)

  -- what a search for an identity says of it
  pub absent : (ys : List X) (found : Option (Bor X)) (q id : ℕ) (b : Bool) → option_copied found ≡ find (λ x. key x == q) ys → q ≡ id → is_some found ≡ not b → not (is_among (map key ys) id) ≡ b
  absent ys found q id b searched same is =
      not_not (is_among (map key ys) id) b
      (ap (is_among (map key ys)) (sym same) ∙ (sym (found-is_among ys q) ∙ (ap is_some (sym searched) ∙ (copied found ∙ is))))
    where
      copied : (o : Option (Bor X)) → is_some (option_copied o) ≡ is_some o
      copied None = refl
      copied (Some x) = refl
