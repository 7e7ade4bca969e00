-- Identities above all of some graphs, and above all of one more.
use Rattle.std.proofs.Common.{◌≡◌, ◌≤◌, ◌<◌, ℕ, ◌+◌, List, [], ◌∷◌, ◌++◌, fold, map, max, sym, ap, ◌∙◌, subst, arith, append-nil}
use Rattle.std.specs.List.{AllByRecursion, flat_map}
use Rattle.std.proofs.Math.Nat.{le-max_left, le-max_right, max-le}
use Rattle.std.proofs.lemmas.Grind.{flat_map-append, fold-append}
use Rattle.std.proofs.lemmas.List.{map-append}
use Rattle.gc_ppg.specs.FreeIds.{IsAbove, IsFirstFree, IsLeastAbove}
use Rattle.gc_spec.specs.PropertyGraph.{PropertyGraph, ids_of}
use Rattle.gcore.specs.Outcomes.{free_above}

abbrev behind : List ℕ → List ℕ
behind ids = map (λ id. id + 1) ids

greatest_is_least_above : (n : ℕ) (ids : List ℕ) → IsLeastAbove n ids (fold max n (behind ids))
greatest_is_least_above n [] = record { from = omega arith; above = tt; least = λ m le all. le }
greatest_is_least_above n (id ∷ ids) =
    let rest = greatest_is_least_above (max n (id + 1)) ids in
    record {
      from = let p = rest.from in omega (arith, p, le-max_left n (id + 1));
      above = ((let p = rest.from in omega (arith, p, le-max_right n (id + 1))), rest.above);
      least = λ m le all. rest.least m (max-le le (let p = all.0 in omega (arith, p))) all.1;
    }

-- there is one such number
one_least : (n : ℕ) (ids : List ℕ) (a b : ℕ) → IsLeastAbove n ids a → IsLeastAbove n ids b → a ≡ b
one_least n ids a b h k =
    let p = h.least b k.from k.above in
    let q = k.least a h.from h.above in
    omega (arith, p, q)

pub below_more : (n m : ℕ) (ids : List ℕ) → n ≤ m → IsAbove n ids → IsAbove m ids
below_more n m [] le h = tt
below_more n m (id ∷ ids) le h = ((let p = h.0 in omega (arith, le, p)), below_more n m ids le h.1)

-- what is least above some from 0 on, is so from another number on where it is not below that
least_from : (n : ℕ) (ids : List ℕ) (f : ℕ) → IsLeastAbove 0 ids f → IsLeastAbove n ids (max n f)
least_from n ids f h = record {
  from = le-max_left n f;
  above = below_more f (max n f) ids (le-max_right n f) h.above;
  least = λ m le all. max-le le (h.least m (omega arith) all);
}

of_one : (g : PropertyGraph) → IsLeastAbove 0 (ids_of g) (free_above (g ∷ []))
of_one g = subst (λ ids. IsLeastAbove 0 (ids_of g) (fold max 0 (behind ids))) (sym (append-nil (ids_of g))) (greatest_is_least_above 0 (ids_of g))

-- the first free identity of a graph is the first that is above the graph alone
pub first_free_above : (g : PropertyGraph) (n : ℕ) → IsFirstFree g n → n ≡ free_above (g ∷ [])
first_free_above g n h = one_least 0 (ids_of g) n (free_above (g ∷ [])) h (of_one g)

-- the identities above all of one graph more
pub free_more : (gs : List PropertyGraph) (g : PropertyGraph) → free_above (gs ++ g ∷ []) ≡ max (free_above gs) (free_above (g ∷ []))
free_more gs g =
    let ids = ids_of g in
    let before = flat_map ids_of gs in
    let all : free_above (gs ++ g ∷ []) ≡ fold max (free_above gs) (behind ids) =
    ap (λ is. fold max 0 (behind is)) (flat_map-append ids_of gs (g ∷ []) ∙ ap (λ is. before ++ is) (append-nil ids))
    ∙ (ap (fold max 0) (map-append (λ id. id + 1) before ids) ∙ fold-append max 0 (behind before) (behind ids)) in
    all ∙ one_least (free_above gs) ids (fold max (free_above gs) (behind ids)) (max (free_above gs) (free_above (g ∷ [])))
    (greatest_is_least_above (free_above gs) ids) (least_from (free_above gs) ids (free_above (g ∷ [])) (of_one g))
