-- Where a file breaks a sort rule, by the places of its tokens with that of its end behind them.
use Rattle.std.proofs.Common.{◌≡◌, ℕ, zero, suc, List, [], ◌∷◌, ◌++◌, Option, Some, None, Result, Ok, Err, refl, ap, sym, subst, ◌∙◌, slice_get}
use Rattle.std.specs.Option.{unwrap_or}
use Rattle.gc_base.specs.declared.place.Place.{Place}
use Rattle.gc_ast.specs.declared.file.File.{File}
use Rattle.gc_ast.specs.QueryViews.{file_trees}
use Rattle.gc_lower.specs.Namings.{QueryFile}
use Rattle.gc_parse_source.specs.Sources.{names_among}
use Rattle.gc_lex.specs.declared.token.Token.{Token}
use Rattle.gc_parse.specs.Parses.{parsed}
use Rattle.gc_sorts.specs.declared.breach.Breach.{Breach}
use Rattle.gc_sorts.specs.declared.breach.SortRule.{SortRule}
use Rattle.gc_sorts.specs.declared.checked.Checked.{Checked}
use Rattle.gc_sorts.specs.declared.refusal.SortRefusal.TheVariants.{Broken}
use Rattle.gc_sorts.specs.Checks.{IsChecked}
use Rattle.gcore.specs.QueryFiles.{IsFileOf, breach_place, end_place, file_over, place_at, placed, query_file_at, sorted_at, unless_broken}
use Rattle.gcore.specs.declared.stop.Stop.{Stop}
use Rattle.gcore.specs.declared.stop.Stop.TheVariants.{Sorts}

end_is : (places : List Place) (end : Place) → end_place (places ++ end ∷ []) ≡ end
end_is [] end = refl
end_is (p ∷ []) end = refl
end_is (p ∷ q ∷ places) end = end_is (q ∷ places) end

or_end : (places : List Place) (end : Place) (k : ℕ) → unwrap_or (slice_get (places ++ end ∷ []) k) end ≡ unwrap_or (slice_get places k) end
or_end [] end zero = refl
or_end [] end (suc k) = refl
or_end (p ∷ places) end zero = refl
or_end (p ∷ places) end (suc k) = or_end places end k

-- the place of the token of a number, by the places of the tokens and that of the end
pub place_by : (places : List Place) (end : Place) (k : ℕ) → place_at (places ++ end ∷ []) k ≡ unwrap_or (slice_get places k) end
place_by places end k = ap (unwrap_or (slice_get (places ++ end ∷ []) k)) (end_is places end) ∙ or_end places end k

place_is : (places : List Place) (end : Place) (breach : Breach) → breach_place (places ++ end ∷ []) breach ≡ unwrap_or (slice_get places breach.token) end
place_is places end breach = place_by places end breach.token

-- the places of a file's tokens, and that of its end
abbrev pub places_of : File → List Place
places_of file = file.places ++ file.end ∷ []

-- a file over graphs of these names, as it is read
abbrev pub over : List (List ℕ) → File → QueryFile
over graphs file = file_over graphs file.names (file_trees file)

pub sorted_is : (file : File) (graphs : List (List ℕ)) (found : Option Breach) (checked : Checked) → IsChecked file graphs found (Ok checked) → unless_broken (places_of file) (over graphs file) found ≡ Ok (placed checked)
sorted_is file graphs None checked h = λ i. Ok (record { file = over (sym h.1 i) (sym h.0 i); places = places_of (sym h.0 i) })
sorted_is file graphs (Some breach) checked h = absurd h

pub broken_is : (file : File) (graphs : List (List ℕ)) (found : Option Breach) (rule : SortRule) (at : Place) → IsChecked file graphs found (Err (Broken rule at)) → unless_broken (places_of file) (over graphs file) found ≡ Err (Sorts rule at)
broken_is file graphs None rule at h = absurd h
broken_is file graphs (Some breach) rule at h = ap (λ r. Err (Sorts r (breach_place (places_of file) breach))) (sym h.0) ∙ ap (λ p. Err (Sorts rule p)) (place_is file.places file.end breach ∙ sym h.1)

-- the file that tokens at these places spell
pub parsed_file : (graphs : List (List ℕ)) (places : List Place) (tokens : List Token) (file : File) (r : Result Checked Stop) → parsed tokens ≡ Ok (file_trees file) → places_of file ≡ places → file.names ≡ names_among tokens
    → IsFileOf (sorted_at (places_of file) (over graphs file)) r → IsFileOf (query_file_at graphs (names_among tokens) places (parsed tokens)) r
parsed_file graphs places tokens file r due same named h =
    subst (λ p. IsFileOf (query_file_at graphs (names_among tokens) places p) r) (sym due)
    (subst (λ names. IsFileOf (sorted_at places (file_over graphs names (file_trees file))) r) named (subst (λ ps. IsFileOf (sorted_at ps (over graphs file)) r) same h))
