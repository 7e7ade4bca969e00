-- One turn of a loop that goes over the rows of a table by number.
use Rattle.std.proofs.Common.{◌≡◌, ℕ, ◌+◌, List, ◌∷◌, ◌++◌, drop, Some, append_assoc, sym, ap, ◌∙◌}
use Rattle.std.specs.List.{slice_get}
use Rattle.std.proofs.lemmas.List.{drop_more}
use Rattle.std.proofs.lemmas.Option.{slice_get_within, get_or_from_slice_get}

next_first : {X : Type 0} (xs : List X) (i : ℕ) (x : X) → slice_get xs i ≡ Some x → drop i xs ≡ x ∷ drop (i + 1) xs
next_first xs i x found = drop_more xs i x (slice_get_within xs i x found) ∙ ap (λ y. y ∷ drop (i + 1) xs) (get_or_from_slice_get xs i x x found)

-- what the rest gives, of which the next item gives the first part
pub turn : {X Y : Type 0} (now next : List X → List Y) (xs : List X) (i : ℕ) (x : X) (part old new all : List Y)
    → slice_get xs i ≡ Some x → now (x ∷ drop (i + 1) xs) ≡ part ++ next (drop (i + 1) xs)
    → new ≡ old ++ part → old ++ now (drop i xs) ≡ all → new ++ next (drop (i + 1) xs) ≡ all
turn now next xs i x part old new all found split added so_far =
    let rest = next (drop (i + 1) xs) in
    ap (λ ys. ys ++ rest) added
    ∙ (append_assoc old part rest
    ∙ (ap (λ ys. old ++ ys) (sym split) ∙ (ap (λ ys. old ++ now ys) (sym (next_first xs i x found)) ∙ so_far)))
