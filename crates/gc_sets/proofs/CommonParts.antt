-- What is kept of sets and properties one by one.
use Rattle.std.proofs.Common.{◌≡◌, ℕ, ◌+◌, Some, drop, true, false, cond, not, List, [], ◌∷◌, ◌++◌, fold, map, refl, sym, ap, ◌∙◌, subst, append_assoc, append-nil}
use Rattle.std.specs.declared.cmp.Ordering.TheVariants.{Less}
use Rattle.std.specs.Ordering.{is_eq}
use Rattle.std.specs.List.{AllByRecursion, filter, slice_get}
use Rattle.gc_base.specs.Ascending.{Ascends, with_item, without_item}
use Rattle.gc_base.specs.PropertyLists.{is_nil, property_order, put}
use Rattle.gc_base.specs.declared.literal.Literal.{Literal}
use Rattle.gc_base.specs.declared.properties.Property.{Property}
use Rattle.gc_sets.specs.Intersections.{common_properties, common_values, shared}
use Rattle.gc_sets.proofs.Sets.{before, with_item-last}
use Rattle.gc_sets.proofs.Turns.{next_first}

-- a set has nothing in common with nothing
pub nothing_common : (xs : List Literal) → common_values xs [] ≡ []
nothing_common [] = refl
nothing_common (x ∷ xs) = nothing_common xs

-- a list without the item in its midst
without_middle : (done : List Property) (p : Property) (more : List Property) → Ascends property_order (done ++ p ∷ more) → Ascends property_order (done ++ more)
without_middle [] p more up = up.1
without_middle (q ∷ done) p more up = (fewer done up.0, without_middle done p more up.1)
  where
    fewer : (xs : List Property) → AllByRecursion (λ y. property_order q y ≡ Less) (xs ++ p ∷ more) → AllByRecursion (λ y. property_order q y ≡ Less) (xs ++ more)
    fewer [] h = h.1
    fewer (x ∷ xs) h = (h.0, fewer xs h.1)

none_ties : (xs : List Property) (p : Property) → AllByRecursion (λ y. property_order y p ≡ Less) xs → without_item property_order xs p ≡ xs
none_ties [] p h = refl
none_ties (x ∷ xs) p h = ap (λ o. cond (not (is_eq o)) (x ∷ without_item property_order xs p) (without_item property_order xs p)) h.0 ∙ ap (λ ys. x ∷ ys) (none_ties xs p h.1)

abbrev with_values : List Property → List Property
with_values ps = filter (λ p. not (is_nil p.values)) ps

-- properties that ascend by name are put at the end, those that have values
put_last : (done more : List Property) → Ascends property_order (done ++ more) → fold put done more ≡ done ++ with_values more
put_last done [] up = sym (append-nil done)
put_last done (p ∷ more) up =
    elim (is_nil p.values) as
    (λ b. fold put (cond b (without_item property_order done p) (with_item property_order done p)) more ≡ done ++ cond (not b) (p ∷ with_values more) (with_values more)) [
      | true ↦ ap (λ ps. fold put ps more) (none_ties done p (before property_order done p more up)) ∙ put_last done more (without_middle done p more up)
      | false ↦
          let same : (done ++ p ∷ []) ++ more ≡ done ++ p ∷ more = append_assoc done (p ∷ []) more in
          ap (λ ps. fold put ps more) (with_item-last property_order done p more up)
          ∙ (put_last (done ++ p ∷ []) more (subst (Ascends property_order) (sym same) up) ∙ append_assoc done (p ∷ []) (with_values more))
    ]

shared_ascend : (qs ps : List Property) → Ascends property_order ps → Ascends property_order (map (shared qs) ps)
shared_ascend qs [] up = tt
shared_ascend qs (p ∷ ps) up = (each ps up.0, shared_ascend qs ps up.1)
  where
    each : (xs : List Property) → AllByRecursion (λ y. property_order p y ≡ Less) xs → AllByRecursion (λ y. property_order (shared qs p) y ≡ Less) (map (shared qs) xs)
    each [] h = tt
    each (x ∷ xs) h = (h.0, each xs h.1)

pub common_put : (ps qs : List Property) → Ascends property_order ps → fold put [] (map (shared qs) ps) ≡ common_properties ps qs
common_put ps qs up = put_last [] (map (shared qs) ps) (shared_ascend qs ps up)

-- one more property is put, and one less is left
pub put_turn : (qs ps : List Property) (i : ℕ) (p : Property) (old now whole : List Property) → slice_get ps i ≡ Some p → now ≡ put old (shared qs p)
    → fold put old (map (shared qs) (drop i ps)) ≡ whole → fold put now (map (shared qs) (drop (i + 1) ps)) ≡ whole
put_turn qs ps i p old now whole found added so_far =
    ap (λ xs. fold put xs (map (shared qs) (drop (i + 1) ps))) added ∙ (ap (λ xs. fold put old (map (shared qs) xs)) (sym (next_first ps i p found)) ∙ so_far)
