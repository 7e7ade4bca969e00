-- What is above the identities of a graph.
use Rattle.std.proofs.Common.{ℕ, ◌+◌, ◌<◌, ◌≤◌, List, [], ◌∷◌, ◌++◌, max, map, arith}
use Rattle.std.specs.List.{AllByRecursion}
use Rattle.std.proofs.Math.Nat.{le-max_left, le-max_right, max-le}
use Rattle.gc_base.proofs.SetLaws.{AllByRecursion-append}
use Rattle.gc_spec.specs.PropertyGraph.{PropertyGraph, IsGraph, node_ids, edge_ids, path_ids, ids_of, IsId}
use Rattle.gc_ppg.specs.FreeIds.{IsAbove, IsLeastAbove, IsFirstFree}

-- the first number from n on that is above all of these identities, as a loop finds it
abbrev pub above : ℕ → List ℕ → ℕ
above n [] = n
above n (id ∷ ids) = above (max n (id + 1)) ids

-- the least of the numbers above the first identity is behind it
pub above_is_least : (n : ℕ) (ids : List ℕ) → IsLeastAbove n ids (above n ids)
above_is_least n [] = record { from = omega arith; above = tt; least = λ m le all. le }
above_is_least n (id ∷ ids) =
    let rest = above_is_least (max n (id + 1)) ids in
    record {
      from = omega (arith, rest.from, le-max_left n (id + 1));
      above = (omega (arith, rest.from, le-max_right n (id + 1)), rest.above);
      least = λ m le all. rest.least m (max-le le (omega (arith, all.0))) all.1;
    }

below_more : (n m : ℕ) (ids : List ℕ) → n ≤ m → IsAbove n ids → IsAbove m ids
below_more n m [] le h = tt
below_more n m (id ∷ ids) le h = (omega (arith, le, h.0), below_more n m ids le h.1)

both_below : (m : ℕ) (xs ys : List ℕ) → IsAbove m (xs ++ ys) → IsAbove m xs × IsAbove m ys
both_below m [] ys h = (tt, h)
both_below m (x ∷ xs) ys h = let rest = both_below m xs ys h.1 in ((h.0, rest.0), rest.1)

-- the least above some from the first number on, and then above others from that one on, is the least above all
least_in_turn : (first n m : ℕ) (xs ys : List ℕ) → IsLeastAbove first xs n → IsLeastAbove n ys m → IsLeastAbove first (xs ++ ys) m
least_in_turn first n m xs ys a b = record {
  from = let p = a.from in let q = b.from in omega (arith, p, q);
  above = AllByRecursion-append (λ id. id < m) xs ys (below_more n m xs b.from a.above) b.above;
  least = λ k le all. let parts = both_below k xs ys all in b.least k (a.least k le parts.0) parts.1;
}

-- the first free identity of a graph, from its lists in turn
pub first_free_in_turn : (g : PropertyGraph) (nodes edges paths : ℕ) → IsLeastAbove 0 (node_ids g.nodes) nodes → IsLeastAbove nodes (edge_ids g.edges) edges
    → IsLeastAbove edges (path_ids g.paths) paths → IsFirstFree g paths
first_free_in_turn g nodes edges paths a b c =
    least_in_turn 0 edges paths (node_ids g.nodes ++ edge_ids g.edges) (path_ids g.paths) (least_in_turn 0 nodes edges (node_ids g.nodes) (edge_ids g.edges) a b) c

all_below : (ids : List ℕ) → AllByRecursion IsId ids → IsAbove 9007199254740992 ids
all_below [] h = tt
all_below (id ∷ ids) h = (omega (arith, h.0), all_below ids h.1)

ids_of_all : {X : Type 0} (P : X → Type 0) (f : X → ℕ) → ((x : X) → P x → IsId (f x)) → (xs : List X) → AllByRecursion P xs → AllByRecursion IsId (map f xs)
ids_of_all P f is [] h = tt
ids_of_all P f is (x ∷ xs) h = (is x h.0, ids_of_all P f is xs h.1)

-- the first free identity of a graph is at most one more than the largest
pub first_free_most : (g : PropertyGraph) (n : ℕ) → IsGraph g → IsFirstFree g n → n ≤ 9007199254740992
first_free_most g n h first =
    first.least 9007199254740992 (omega arith)
    (all_below (ids_of g)
    (AllByRecursion-append IsId (node_ids g.nodes ++ edge_ids g.edges) (path_ids g.paths)
    (AllByRecursion-append IsId (node_ids g.nodes) (edge_ids g.edges) (ids_of_all _ (λ n. n.id) (λ n k. k.id) g.nodes h.nodes) (ids_of_all _ (λ e. e.id) (λ e k. k.id) g.edges h.edges))
    (ids_of_all _ (λ p. p.id) (λ p k. k.id) g.paths h.paths)))
