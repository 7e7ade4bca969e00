-- Along a symbol there are no more hops than nodes, edges and segments.
use Rattle.std.proofs.Common.{ℕ, ◌+◌, ◌≤◌, Bool, true, false, cond, nat_eq, List, [], ◌∷◌, map, length, Some, None, suc, arith}
use Rattle.std.specs.List.{filter}
use Rattle.std.specs.Cmp.Lexicographic.{pointwise}
use Rattle.std.proofs.lemmas.List.{length-map}
use Rattle.gc_automata.specs.Moves.{Network, Segment}
use Rattle.gc_automata.specs.declared.transition.On.{On}
use Rattle.gc_automata.specs.declared.transition.On.TheVariants as on
use Rattle.gc_prod.specs.declared.moves.Hop.{Hop}
use Rattle.gc_prod.specs.declared.hop_lists.Way.TheVariants as way
use Rattle.gc_prod.specs.SymbolHops.{hops, still, along_edge, by_segment, by_segments, fits}

filter_most : {X : Type 0} (p : X → Bool) (xs : List X) → length (filter p xs) ≤ length xs
filter_most p [] = omega arith
filter_most p (x ∷ xs) =
    let rest = filter_most p xs in
    elim (p x) as (λ b. length (cond b (x ∷ filter p xs) (filter p xs)) ≤ suc (length xs)) [ true ↦ omega (arith, rest) | false ↦ omega (arith, rest) ]

chosen_most : {X : Type 0} (f : X → Hop) (p : X → Bool) (xs : List X) → length (map f (filter p xs)) ≤ length xs
chosen_most f p xs = omega (arith, length-map (filter p xs) f, filter_most p xs)

segments_most : (view : List ℕ) (i : ℕ) (segments : List Segment) → length (by_segments view i segments) ≤ length segments
segments_most view i [] = omega arith
segments_most view i (s ∷ segments) =
    let rest = segments_most view (i + 1) segments in
    elim (pointwise nat_eq s.view view) as (λ b. length (cond b (by_segment i s ∷ by_segments view (i + 1) segments) (by_segments view (i + 1) segments)) ≤ suc (length segments)) [
      | true ↦ omega (arith, rest)
      | false ↦ omega (arith, rest)
    ]

-- how many nodes, edges and segments there are
abbrev pub elements : Network → ℕ
elements network = length network.graph.nodes + length network.graph.edges + length network.segments

pub hops_most : (network : Network) (label : On) → length (hops network label) ≤ elements network
unfolding hops
hops_most network on.Empty = omega (arith, chosen_most still (λ n. fits None n.labels) network.graph.nodes)
hops_most network (on.Label l) = omega (arith, chosen_most (along_edge way.Forward) (λ e. fits (Some l) e.labels) network.graph.edges)
hops_most network (on.Back l) = omega (arith, chosen_most (along_edge way.Back) (λ e. fits (Some l) e.labels) network.graph.edges)
hops_most network on.Any = omega (arith, chosen_most (along_edge way.Forward) (λ e. fits None e.labels) network.graph.edges)
hops_most network on.AnyBack = omega (arith, chosen_most (along_edge way.Back) (λ e. fits None e.labels) network.graph.edges)
hops_most network (on.Test l) = omega (arith, chosen_most still (λ n. fits (Some l) n.labels) network.graph.nodes)
hops_most network (on.View v) = omega (arith, segments_most v 0 network.segments)
