-- A name that is a word which no graph has.
use Rattle.std.proofs.Common.{◌≡◌, ℕ, ◌&&◌, not, Bool, true, false, List, Option, None, Some, is_some, if◌then◌else◌, refl, sym, ◌∙◌, subst}
use Rattle.std.specs.Prelude.{IsSome}
use Rattle.std.proofs.lemmas.Option.{same_Some}
use Rattle.gc_base.specs.Words.{is_word}
use Rattle.gc_catalog.specs.NamedGraphs.{number_of}
use Rattle.gc_query.specs.Steps.{free_word}

-- a free word is the name itself, and no graph has it
by_tests : (name word : List ℕ) (a b : Bool) → (if a && not b then Some name else None) ≡ Some word → (b ≡ false) × (name ≡ word)
by_tests name word true true h = cc
by_tests name word true false h = (refl, same_Some name word h)
by_tests name word false b h = cc

no_number : (names : List (Option (List ℕ))) (name word : List ℕ) → free_word names name ≡ Some word → is_some (number_of names word) ≡ false
no_number names name word h =
    let both = by_tests name word (is_word name) (is_some (number_of names name)) h in
    subst (λ w. is_some (number_of names w) ≡ false) both.1 both.0

none_there : (o : Option ℕ) → is_some o ≡ false → IsSome o → ⊥
none_there o h k = let f : false ≡ true = sym h ∙ k in absurd (cc)

pub not_taken : (names : List (Option (List ℕ))) (name word : List ℕ) → free_word names name ≡ Some word → IsSome (number_of names word) → ⊥
not_taken names name word h k = none_there (number_of names word) (no_number names name word h) k
