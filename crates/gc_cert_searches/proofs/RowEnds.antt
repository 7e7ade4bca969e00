-- The ends of the walks of rows, one row after another.
use Rattle.std.proofs.Common.{◌≡◌, ℕ, ◌+◌, List, [], ◌∷◌, ◌++◌, take, slice_get, Option, Some, None, sym, ap, ◌∙◌, append-nil}
use Rattle.std.proofs.lemmas.List.{flat_map_more, take_more}
use Rattle.std.proofs.lemmas.Option.{slice_get_within, get_or_from_slice_get}
use Rattle.std.specs.Option.{option_to_list}
use Rattle.gc_base.specs.declared.place.Sym.{Sym}
use Rattle.gc_rows.specs.Rows.{datum_at}
use Rattle.gc_rows.specs.declared.row.Binding.{Binding}
use Rattle.gc_cert_searches.specs.declared.ends.WalkEnds.{WalkEnds}
use Rattle.gc_cert_searches.specs.Readings.{ends_if, ends_in}

one_more : {X : Type 0} (items : List X) (i : ℕ) (x : X) → slice_get items i ≡ Some x → take (i + 1) items ≡ take i items ++ x ∷ []
one_more items i x at = take_more items i x (slice_get_within items i x at) ∙ ap (λ y. take i items ++ y ∷ []) (get_or_from_slice_get items i x x at)

module _ (p : Sym) (rows : List (List Binding)) (i : ℕ) (row : List Binding) (ends : List WalkEnds) (at : slice_get rows i ≡ Some row)
    (before : ends ≡ ends_in p (take i rows)) where
  one_row : (found : Option WalkEnds) → found ≡ ends_if (datum_at row p) → ends ++ option_to_list found ≡ ends_in p (take (i + 1) rows)
  one_row found is =
      ap (λ es. es ++ option_to_list found) before ∙ (ap (λ o. ends_in p (take i rows) ++ option_to_list o) is
      ∙ (flat_map_more (λ r. option_to_list (ends_if (datum_at r p))) [] (take i rows) row ∙ ap (ends_in p) (sym (one_more rows i row at))))

  pub with_ends : (e : WalkEnds) → Some e ≡ ends_if (datum_at row p) → ends ++ e ∷ [] ≡ ends_in p (take (i + 1) rows)
  with_ends e is = one_row (Some e) is

  pub without_ends : None ≡ ends_if (datum_at row p) → ends ≡ ends_in p (take (i + 1) rows)
  without_ends is = sym (append-nil ends) ∙ one_row None is
