-- The segments of rows one after another, and the first row whose cost is bad, among those that have a walk.
use Rattle.std.proofs.Common.{◌≡◌, ℕ, ◌+◌, List, [], ◌∷◌, ◌++◌, map, cond, true, take, drop, slice_get, Some, None, Ok, Err, Result, IfErr, sym, ap, ◌∙◌, subst, append-nil}
use Rattle.std.specs.Result.{IsErrAnd}
use Rattle.std.proofs.lemmas.List.{drop_more, map-append, take-append-drop, take_more}
use Rattle.std.proofs.lemmas.List.Elements.{filter-append}
use Rattle.std.proofs.lemmas.Option.{slice_get_within, get_or_from_slice_get}
use Rattle.gc_automata.specs.Moves.{Segment}
use Rattle.gc_rows.specs.declared.row.Binding.{Binding}
use Rattle.gc_views.specs.Segments.{View, Gives, IsBad, IsFault, IsFirstBad, has_walk, segment_of, walking}
use Rattle.gc_views.specs.declared.fault.ViewFault.{ViewFault}
use Rattle.gc_views.specs.declared.fault.ViewFault.TheVariants.{BadCost, Memory}

split_at : {X : Type 0} (items : List X) (i : ℕ) (x : X) → slice_get items i ≡ Some x → items ≡ take i items ++ x ∷ drop (i + 1) items
split_at items i x at =
    let rest : drop i items ≡ x ∷ drop (i + 1) items = drop_more items i x (slice_get_within items i x at) ∙ ap (λ y. y ∷ drop (i + 1) items) (get_or_from_slice_get items i x x at) in
    sym (take-append-drop i items) ∙ ap (λ more. take i items ++ more) rest

one_more : {X : Type 0} (items : List X) (i : ℕ) (x : X) → slice_get items i ≡ Some x → take (i + 1) items ≡ take i items ++ x ∷ []
one_more items i x at = take_more items i x (slice_get_within items i x at) ∙ ap (λ y. take i items ++ y ∷ []) (get_or_from_slice_get items i x x at)

-- behind rows that have segments, a bad row is the first
module _ (v : View) (rows : List (List Binding)) (i : ℕ) (row : List Binding) (found : List Segment) (at : slice_get rows i ≡ Some row)
    (each : map (segment_of v) (walking v (take i rows)) ≡ map Some found) where
  -- the rows so far that have a walk, and one more row
  walking_more : walking v (take (i + 1) rows) ≡ walking v (take i rows) ++ cond (has_walk v row) (row ∷ []) []
  walking_more = ap (walking v) (one_more rows i row at) ∙ filter-append (has_walk v) (take i rows) (row ∷ [])

  pub with_segment : (segment : Segment) → Gives v row (Some segment) → map (segment_of v) (walking v (take (i + 1) rows)) ≡ map Some (found ++ segment ∷ [])
  with_segment segment gives =
      ap (map (segment_of v)) (walking_more ∙ ap (λ b. walking v (take i rows) ++ cond b (row ∷ []) []) gives.0)
      ∙ (map-append (segment_of v) (walking v (take i rows)) (row ∷ []) ∙ (ap (λ os. os ++ segment_of v row ∷ []) each
      ∙ (ap (λ o. map Some found ++ o ∷ []) gives.1 ∙ sym (map-append Some found (segment ∷ [])))))

  pub without_walk : Gives v row None → map (segment_of v) (walking v (take (i + 1) rows)) ≡ map Some found
  without_walk gives =
      ap (map (segment_of v)) (walking_more ∙ (ap (λ b. walking v (take i rows) ++ cond b (row ∷ []) []) gives ∙ append-nil (walking v (take i rows)))) ∙ each

  walking_split : has_walk v row ≡ true → walking v rows ≡ walking v (take i rows) ++ row ∷ walking v (drop (i + 1) rows)
  walking_split walks =
      let rest = walking v (drop (i + 1) rows) in
      ap (walking v) (split_at rows i row at) ∙ filter-append (has_walk v) (take i rows) (row ∷ drop (i + 1) rows)
      ∙ ap (λ b. walking v (take i rows) ++ cond b (row ∷ rest) rest) walks

  first_bad : (fault : ViewFault) → IsFault (λ walk. (has_walk v row ≡ true) × IsBad v row walk) fault → IsFault (IsFirstBad v rows) fault
  first_bad (BadCost walk) bad = record {
    before = walking v (take i rows);
    row = row;
    after = walking v (drop (i + 1) rows);
    split = walking_split bad.0;
    of_rows = found;
    each = each;
    bad = bad.1;
  }
  first_bad Memory bad = tt

  pub handed_on : (r : Result (List Segment) ViewFault) (fault : ViewFault) → IsErrAnd r (λ e. e ≡ fault)
      → IsFault (λ walk. (has_walk v row ≡ true) × IsBad v row walk) fault → IfErr r (IsFault (IsFirstBad v rows))
  handed_on (Ok segments) fault is bad = tt
  handed_on (Err e) fault is bad = first_bad e (subst (IsFault (λ walk. (has_walk v row ≡ true) × IsBad v row walk)) (sym is) bad)
