-- One turn of a loop that writes the elements of a list.
use Rattle.std.proofs.Common.{◌≡◌, ℕ, ◌+◌, ◌<◌, List, ◌∷◌, ◌++◌, length, drop, Some, ap, sym, ◌∙◌, append_assoc, add-one, suc}
use Rattle.std.specs.List.{slice_get}
use Rattle.std.proofs.Math.Seq.{drop-cons}
use Rattle.std.proofs.lemmas.Option.{slice_get_within, get_or_from_slice_get}
use Rattle.json.specs.Token.{Token}
use Rattle.serde_json.specs.Data.{Data}
use Rattle.gc_json.specs.Writing.{tokens_of}
use Rattle.gc_json.proofs.Rest.{rest_of_array}

module _ {X : Type 0} (data_of : X → Data) (xs : List X) (i : ℕ) (x : X) where
  next_first : slice_get xs i ≡ Some x → drop i xs ≡ x ∷ drop (i + 1) xs
  next_first found =
      let within : i < length xs = slice_get_within xs i x found in
      rw (add-one, drop-cons xs i x) (ap (λ y. y ∷ drop (suc i) xs) (get_or_from_slice_get xs i x x found))

  -- one more element is written, and one less is left
  pub turn : (old now all : List Token) → slice_get xs i ≡ Some x → now ≡ old ++ tokens_of (data_of x)
      → old ++ rest_of_array data_of (drop i xs) ≡ all → now ++ rest_of_array data_of (drop (i + 1) xs) ≡ all
  turn old now all found added so_far =
      ap (λ ts. ts ++ rest_of_array data_of (drop (i + 1) xs)) added
      ∙ (append_assoc old (tokens_of (data_of x)) (rest_of_array data_of (drop (i + 1) xs))
      ∙ (ap (λ ys. old ++ rest_of_array data_of ys) (sym (next_first found)) ∙ so_far))
