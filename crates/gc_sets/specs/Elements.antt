-- The elements of one kind in two graphs, told apart by their identities.
use Rattle.std.specs.Prelude.{ℕ, Bool, not, ◌&&◌, List, map}
use Rattle.std.specs.List.{filter}
use Rattle.gc_spec.specs.PropertyGraph.{Node, Edge, node_ids, is_among}

-- the elements of the first list that are not in the second
abbrev pub others : {X : Type 0} → (X → ℕ) → List X → List X → List X
others id_of xs ys = filter (λ x. not (is_among (map id_of ys) (id_of x))) xs

-- whether both ends of an edge are among some nodes
abbrev pub stands : List Node → Edge → Bool
stands nodes e = is_among (node_ids nodes) e.from && is_among (node_ids nodes) e.to
