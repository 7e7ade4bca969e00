-- A kept instance that has a variable is one of a chain in which the variable stands; one that has a walk stores or projects its path.
use Rattle.std.proofs.Common.{◌≡◌, ℕ, ◌==◌, ◌&&◌, ◌||◌, Bool, true, false, cond, List, [], ◌∷◌, ◌++◌, map, refl, sym, ap, ◌∙◌}
use Rattle.std.proofs.lemmas.List.Elements.{filter-append}
use Rattle.std.proofs.lemmas.List.Folds.{list_any-append}
use Rattle.std.specs.List.{filter, list_any}
use Rattle.gc_base.specs.declared.place.Sym.{Sym}
use Rattle.gc_rows.specs.Rows.{lists}
use Rattle.gc_build.specs.Kept.{Kept, has_instance, is_kept}
use Rattle.gc_build.specs.Standing.{Standing, has_kept, projected, projected_in, standing, standing_in}
use Rattle.gc_build.specs.Walks.{has_walk}

once : (b rest : Bool) (kept : Bool) → rest ≡ (b && kept) → (kept || rest) ≡ kept
once true rest true h = refl
once false rest true h = refl
once true rest false h = h
once false rest false h = h

abbrev stand : Kept → Sym → Standing
stand k y = record { var = y; kept = k }

abbrev of_x : Sym → Standing → Bool
of_x x s = s.var.0 == x.0

module _ (place : ℕ) (x : Sym) where
  abbrev own : Kept → List Sym → List Standing
  own k places = filter (of_x x) (map (λ (y : Sym). stand k y) places)

  in_places : (k : Kept) (places : List Sym) → has_kept place (own k places) ≡ (lists places x && is_kept place k)
  in_places k [] = refl
  in_places k (y ∷ places) = by (y.0 == x.0) (in_places k places)
    where
      by : (b : Bool) → has_kept place (own k places) ≡ (lists places x && is_kept place k)
          → has_kept place (cond b (stand k y ∷ own k places) (own k places)) ≡ ((b || lists places x) && is_kept place k)
      by true h = once (lists places x) (has_kept place (own k places)) (is_kept place k) h
      by false h = h

  pub instances_of : (kept : List Kept) → has_kept place (filter (λ s. s.var.0 == x.0) (standing kept)) ≡ has_instance kept x place
  instances_of [] = refl
  instances_of (k ∷ kept) =
      ap (has_kept place) (filter-append (of_x x) (standing_in k) (standing kept))
      ∙ list_any-append (λ (s : Standing). is_kept place s.kept) (filter (of_x x) (standing_in k)) (filter (of_x x) (standing kept))
      ∙ (λ i. in_places k k.places i || instances_of kept i)

  abbrev has_projected : List Kept → Bool
  has_projected kept = list_any (λ k. lists k.projected x && is_kept place k) kept

  projected_has : (kept : List Kept) → has_kept place (filter (λ s. s.var.0 == x.0) (projected kept)) ≡ has_projected kept
  projected_has [] = refl
  projected_has (k ∷ kept) =
      ap (has_kept place) (filter-append (of_x x) (projected_in k) (projected kept))
      ∙ list_any-append (λ (s : Standing). is_kept place s.kept) (filter (of_x x) (projected_in k)) (filter (of_x x) (projected kept))
      ∙ (λ i. in_places k k.projected i || projected_has kept i)

  -- an instance that has a walk stores its path, or projects it
  either : (a b kept first second : Bool) → (((a && kept) || first) || ((b && kept) || second)) ≡ (((a || b) && kept) || (first || second))
  either true true true first second = refl
  either true false true first second = refl
  either false true true true second = refl
  either false true true false second = refl
  either false false true first second = refl
  either true true false first second = refl
  either true false false first second = refl
  either false true false first second = refl
  either false false false first second = refl

  walk_of : (kept : List Kept) → (has_instance kept x place || has_projected kept) ≡ has_walk kept x place
  walk_of [] = refl
  walk_of (k ∷ kept) =
      either (lists k.places x) (lists k.projected x) (is_kept place k) (has_instance kept x place) (has_projected kept)
      ∙ ap (λ b. ((lists k.places x || lists k.projected x) && is_kept place k) || b) (walk_of kept)

  pub walks_of_path : (kept : List Kept)
      → (has_kept place (filter (λ s. s.var.0 == x.0) (standing kept)) || has_kept place (filter (λ s. s.var.0 == x.0) (projected kept))) ≡ has_walk kept x place
  walks_of_path kept = (λ i. instances_of kept i || projected_has kept i) ∙ walk_of kept
