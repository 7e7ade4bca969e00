-- Places of edges by their ends.
use Rattle.std.specs.Prelude.{◌≡◌, ℕ, ◌+◌, ◌==◌, cond, List, [], ◌∷◌, Option, Some, None, slice_get}
use Rattle.std.specs.List.{filter}
use Rattle.std.specs.Option.{option_map, option_and_then}
use Rattle.gc_spec.specs.PropertyGraph.{Edge}
use Rattle.gc_ppg.specs.declared.node_edges.FarEnd.{FarEnd}
use Rattle.gc_ppg.specs.declared.places.PlaceAt.{PlaceAt}

-- the entries of a key
abbrev pub at_key : ℕ → List PlaceAt → List PlaceAt
at_key key entries = filter (λ e. e.key == key) entries

-- the i-th place of a key
abbrev pub place_in : List PlaceAt → (key i : ℕ) → Option ℕ
place_in places key i = option_map (λ e. e.place) (slice_get (at_key key places) i)

-- the i-th of some places, if it has a key
abbrev pub run_at : (key : ℕ) → List PlaceAt → (i : ℕ) → Option PlaceAt
run_at key places i = option_and_then (λ e. cond (e.key == key) (Some e) None) (slice_get places i)

-- each edge's end with the place of the edge, and how it is seen from there, where the first has the place n
abbrev pub ends_from : (end : Edge → ℕ) (far : Edge → FarEnd) → ℕ → List Edge → List PlaceAt
ends_from end far n [] = []
ends_from end far n (e ∷ edges) = record { key = end e; place = n; far = far e } ∷ ends_from end far (n + 1) edges

-- places that list the edges of each end, in the order of the edges
abbrev pub AreEnds : (end : Edge → ℕ) (far : Edge → FarEnd) → List Edge → List PlaceAt → Type 0
AreEnds end far edges places = (key : ℕ) → at_key key places ≡ at_key key (ends_from end far 0 edges)
