-- What a move costs is told by what it goes by.
use Rattle.std.proofs.Common.{◌≡◌, ℕ, suc, ◌+◌, Bool, true, false, cond, nat_eq, List, [], ◌∷◌, ◌⊎◌, inl, inr, map, Some, None}
use Rattle.std.proofs.Common.{refl, sym, ap, subst, ◌∙◌, arith}
use Rattle.std.specs.List.{Contains, filter, slice_get}
use Rattle.std.specs.Option.{option_map_or}
use Rattle.std.specs.Cmp.Lexicographic.{pointwise}
use Rattle.gc_spec.specs.PropertyGraph.{Node, Edge}
use Rattle.gc_automata.specs.Moves.{Network, Segment}
use Rattle.gc_automata.specs.declared.transition.On.{On}
use Rattle.gc_automata.specs.declared.transition.On.TheVariants as on
use Rattle.gc_automata.proofs.Inclusion.{among_more, among_none}
use Rattle.gc_prod.specs.declared.moves.Hop.{Hop}
use Rattle.gc_prod.specs.declared.moves.Move.{Move}
use Rattle.gc_prod.specs.Products.{Setting, moves}
use Rattle.gc_prod.specs.SymbolHops.{hops, still, forward, back, by_segment, by_segments, fits}
use Rattle.gc_prod.proofs.LeadLaws.{by_move}
use Rattle.gc_prod.proofs.Members.{from_map}
use Rattle.gc_cert.specs.Runs.{cost_by}

module _ (network : Network) where
  abbrev IsPriced : Hop → Type 0
  IsPriced h = cost_by network.segments h.by ≡ h.cost

  along_priced : (f : Edge → Hop) → ((e : Edge) → IsPriced (f e)) → (p : Edge → Bool) (edges : List Edge) (h : Hop)
      → Contains (map f (filter p edges)) h → IsPriced h
  along_priced f priced p edges h k = let e = from_map f (filter p edges) h k in subst IsPriced e.is (priced e.origin)

  still_priced : (p : Node → Bool) (nodes : List Node) (h : Hop) → Contains (map still (filter p nodes)) h → IsPriced h
  still_priced p nodes h k = let n = from_map still (filter p nodes) h k in subst IsPriced n.is refl

  -- some segments are those from a number on
  abbrev AreFrom : ℕ → List Segment → Type 0
  AreFrom i segments = (k : ℕ) → slice_get network.segments (i + k) ≡ slice_get segments k

  later_from : (i : ℕ) (s : Segment) (segments : List Segment) → AreFrom i (s ∷ segments) → AreFrom (i + 1) segments
  later_from i s segments at k = let e : i + 1 + k ≡ i + suc k = omega arith in ap (slice_get network.segments) e ∙ at (suc k)

  first_at : (i : ℕ) (s : Segment) (segments : List Segment) → AreFrom i (s ∷ segments) → slice_get network.segments i ≡ Some s
  first_at i s segments at = let e : i ≡ i + 0 = omega arith in ap (slice_get network.segments) e ∙ at 0

  segments_priced : (view : List ℕ) (i : ℕ) (segments : List Segment) (h : Hop) → AreFrom i segments → Contains (by_segments view i segments) h → IsPriced h
  segments_priced view i [] h at k = absurd (among_none h k)
  segments_priced view i (s ∷ segments) h at k =
      by (segments_priced view (i + 1) segments h (later_from i s segments at)) (pointwise nat_eq s.view view) k
    where
      by : (Contains (by_segments view (i + 1) segments) h → IsPriced h) → (b : Bool)
          → Contains (cond b (by_segment i s ∷ by_segments view (i + 1) segments) (by_segments view (i + 1) segments)) h → IsPriced h
      by next true g = first next (among_more (by_segment i s) (by_segments view (i + 1) segments) h g)
        where
          first : (Contains (by_segments view (i + 1) segments) h → IsPriced h)
              → (by_segment i s ≡ h) ⊎ Contains (by_segments view (i + 1) segments) h → IsPriced h
          first next (inl is) = subst IsPriced is (ap (λ o. option_map_or (λ (r : Segment). r.cost) o 0) (first_at i s segments at))
          first next (inr behind) = next behind
      by next false g = next g

  from_first : AreFrom 0 network.segments
  from_first k = let e : 0 + k ≡ k = omega arith in ap (slice_get network.segments) e

  hop_priced : (label : On) (h : Hop) → Contains (hops network label) h → IsPriced h
  unfolding hops
  hop_priced on.Empty h k = still_priced (λ n. fits None n.labels) network.graph.nodes h k
  hop_priced (on.Test l) h k = still_priced (λ n. fits (Some l) n.labels) network.graph.nodes h k
  hop_priced (on.Label l) h k = along_priced forward (λ e. refl) (λ e. fits (Some l) e.labels) network.graph.edges h k
  hop_priced (on.Back l) h k = along_priced back (λ e. refl) (λ e. fits (Some l) e.labels) network.graph.edges h k
  hop_priced on.Any h k = along_priced forward (λ e. refl) (λ e. fits None e.labels) network.graph.edges h k
  hop_priced on.AnyBack h k = along_priced back (λ e. refl) (λ e. fits None e.labels) network.graph.edges h k
  hop_priced (on.View v) h k = segments_priced v 0 network.segments h from_first k

pub move_priced : (setting : Setting) (node state : ℕ) (m : Move) → Contains (moves setting node state) m → cost_by setting.network.segments m.by ≡ m.cost
move_priced setting node state m among =
    let by = by_move setting node state m among in
    let priced = hop_priced setting.network by.transition.on by.hop by.along in
    ap (λ (k : Move). cost_by setting.network.segments k.by) (sym by.is) ∙ (priced ∙ ap (λ (k : Move). k.cost) by.is)
