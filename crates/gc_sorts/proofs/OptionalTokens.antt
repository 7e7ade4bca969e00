-- The tokens of OPTIONAL blocks, from a number on.
use Rattle.std.proofs.Common.{◌≡◌, ℕ, zero, suc, slice_get, List, [], ◌∷◌, map, drop, refl, ap, sym, ◌∙◌}
use Rattle.std.proofs.lemmas.List.{drop-map}
use Rattle.gc_ast.specs.Trees.{Tree, AnOptional, row}
use Rattle.gc_sorts.specs.Sizes.{first_of, optional_token, optional_tokens}

tokens_of : {A : Type 0} (view : A → Tree AnOptional) (xs : List A) → optional_tokens (row (map view xs)) ≡ map (λ x. optional_token (view x)) xs
tokens_of view [] = refl
tokens_of view (x ∷ xs) = ap (λ tokens. optional_token (view x) ∷ tokens) (tokens_of view xs)

-- those of the blocks from a number on are the tokens from it on
pub tokens_from : {A : Type 0} (view : A → Tree AnOptional) (xs : List A) (n : ℕ)
    → optional_tokens (row (map view (drop n xs))) ≡ drop n (optional_tokens (row (map view xs)))
tokens_from view xs n =
    tokens_of view (drop n xs) ∙ sym (drop-map (λ x. optional_token (view x)) n xs) ∙ sym (ap (drop n) (tokens_of view xs))

first_from : (tokens : List ℕ) (n : ℕ) → first_of (drop n tokens) ≡ slice_get tokens n
first_from [] zero = refl
first_from [] (suc n) = refl
first_from (t ∷ ts) zero = refl
first_from (t ∷ ts) (suc n) = first_from ts n

-- the first token of the blocks from a number on is the one at that number
pub token_at : {A : Type 0} (view : A → Tree AnOptional) (xs : List A) (n : ℕ)
    → first_of (optional_tokens (row (map view (drop n xs)))) ≡ slice_get (optional_tokens (row (map view xs))) n
token_at view xs n = ap first_of (tokens_from view xs n) ∙ first_from (optional_tokens (row (map view xs))) n
