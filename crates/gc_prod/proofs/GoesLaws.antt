-- The hops along a symbol are the walks along it, each seen by its ends and its cost.
use Rattle.std.proofs.Common.{◌≡◌, ℕ, suc, ◌+◌, Bool, true, false, cond, nat_eq, List, [], ◌∷◌, ◌⊎◌, inl, inr, map, Option, Some, None, refl, sym, ap, subst, ◌∙◌, arith}
use Rattle.std.specs.List.{Contains, filter, slice_get}
use Rattle.std.specs.Option.{option_map_or}
use Rattle.std.specs.Cmp.Lexicographic.{pointwise, same_text, nat_list_eq_equiv}
use Rattle.gc_base.specs.Ascending.{has}
use Rattle.gc_base.specs.Literals.{text_order}
use Rattle.gc_base.specs.Walks.{end_of}
use Rattle.gc_base.specs.declared.walk.Walk.{Walk}
use Rattle.gc_spec.specs.PropertyGraph.{Node, Edge}
use Rattle.gc_automata.specs.Moves.{Network, Segment, Goes, GoesAlong, along, against, stay}
use Rattle.gc_automata.specs.declared.transition.On.{On}
use Rattle.gc_automata.specs.declared.transition.On.TheVariants as on
use Rattle.gc_automata.proofs.Inclusion.{among_more, among_none}
use Rattle.gc_prod.specs.declared.moves.Hop.{Hop}
use Rattle.gc_prod.specs.declared.hop_lists.Way.{Way}
use Rattle.gc_prod.specs.declared.hop_lists.Way.TheVariants as way
use Rattle.gc_prod.specs.SymbolHops.{hops, steps_by, still, along_edge, by_segment, by_segments, fits}
use Rattle.gc_prod.proofs.Members.{here, there, in_filter, from_filter, in_map, from_map, key_there, there_key}

-- a walk along a symbol that has the ends and the cost of a hop
pub record WalkOf (network : Network) (label : On) (h : Hop) : Type 0 where
  pub walk : Walk
  pub goes : Goes network label walk h.cost
  pub starts : walk.start ≡ h.from
  pub ends : end_of walk ≡ h.to
  pub steps : walk.steps ≡ steps_by network h.by h.to

-- a hop along a symbol that has the ends and the cost of a walk
pub record HopOf (network : Network) (label : On) (w : Walk) (c : ℕ) : Type 0 where
  pub hop : Hop
  pub along : Contains (hops network label) hop
  pub starts : hop.from ≡ w.start
  pub ends : hop.to ≡ end_of w
  pub cost : hop.cost ≡ c
  pub steps : steps_by network hop.by hop.to ≡ w.steps

abbrev way_of : Way → Edge → Walk
way_of way.Forward = along
way_of way.Back = against

way_starts : (w : Way) (e : Edge) → (way_of w e).start ≡ (along_edge w e).from
way_starts way.Forward e = refl
way_starts way.Back e = refl

way_ends : (w : Way) (e : Edge) → end_of (way_of w e) ≡ (along_edge w e).to
way_ends way.Forward e = refl
way_ends way.Back e = refl

way_cost : (w : Way) (e : Edge) → 1 ≡ (along_edge w e).cost
way_cost way.Forward e = refl
way_cost way.Back e = refl

way_steps : (network : Network) (w : Way) (e : Edge) → (way_of w e).steps ≡ steps_by network (along_edge w e).by (along_edge w e).to
way_steps network way.Forward e = refl
way_steps network way.Back e = refl

module _ (network : Network) where
  -- hops at nodes
  still_walk : (label : On) (h : Hop) (n : Node) → still n ≡ h → Goes network label (stay n.id) 0 → WalkOf network label h
  still_walk label h n is goes = record {
    walk = stay n.id;
    goes = subst (λ c. Goes network label (stay n.id) c) (ap (λ (g : Hop). g.cost) is) goes;
    starts = ap (λ (g : Hop). g.from) is;
    ends = ap (λ (g : Hop). g.to) is;
    steps = ap (λ (g : Hop). steps_by network g.by g.to) is;
  }

  -- hops along edges
  edge_walk : (label : On) (w : Way) (h : Hop) (e : Edge) → along_edge w e ≡ h → Goes network label (way_of w e) 1 → WalkOf network label h
  edge_walk label w h e is goes = record {
    walk = way_of w e;
    goes = subst (λ c. Goes network label (way_of w e) c) (way_cost w e ∙ ap (λ (g : Hop). g.cost) is) goes;
    starts = way_starts w e ∙ ap (λ (g : Hop). g.from) is;
    ends = way_ends w e ∙ ap (λ (g : Hop). g.to) is;
    steps = way_steps network w e ∙ ap (λ (g : Hop). steps_by network g.by g.to) is;
  }

  abbrev IsOrigin : {X : Type 0} → (X → Hop) → (X → Bool) → List X → Hop → X → Type 0
  IsOrigin f p xs h x = Contains xs x × (p x ≡ true) × (f x ≡ h)

  -- a hop of a list that is chosen and changed
  from_chosen : {X : Type 0} (f : X → Hop) (p : X → Bool) (xs : List X) (h : Hop) → Contains (map f (filter p xs)) h → (x : X) × IsOrigin f p xs h x
  from_chosen f p xs h k =
      let image = from_map f (filter p xs) h k in
      let passes = from_filter p xs image.origin image.among in
      (image.origin, (passes.among, passes.passes, image.is))

  in_chosen : {X : Type 0} (f : X → Hop) (p : X → Bool) (xs : List X) (x : X) → Contains xs x → p x ≡ true → Contains (map f (filter p xs)) (f x)
  in_chosen f p xs x among passes = in_map f (filter p xs) x (in_filter p xs x (record { among = among; passes = passes }))

  -- a segment of a view among some, at its number
  pub record Segmented (view : List ℕ) (segments : List Segment) (h : Hop) : Type 0 where
    pub segment : Segment
    pub among : Contains segments segment
    pub view_is : segment.view ≡ view
    pub starts : segment.walk.start ≡ h.from
    pub ends : end_of segment.walk ≡ h.to
    pub cost : segment.cost ≡ h.cost
    pub steps : segment.walk.steps ≡ steps_by network h.by h.to

  -- some segments are those from a number on
  abbrev AreFrom : ℕ → List Segment → Type 0
  AreFrom i segments = (k : ℕ) → slice_get network.segments (i + k) ≡ slice_get segments k

  later_from : (i : ℕ) (s : Segment) (segments : List Segment) → AreFrom i (s ∷ segments) → AreFrom (i + 1) segments
  later_from i s segments at k = let e : i + 1 + k ≡ i + suc k = omega arith in ap (slice_get network.segments) e ∙ at (suc k)

  first_at : (i : ℕ) (s : Segment) (segments : List Segment) → AreFrom i (s ∷ segments) → slice_get network.segments i ≡ Some s
  first_at i s segments at = let e : i ≡ i + 0 = omega arith in ap (slice_get network.segments) e ∙ at 0

  from_segments : (view : List ℕ) (i : ℕ) (segments : List Segment) (h : Hop) → AreFrom i segments → Contains (by_segments view i segments) h → Segmented view segments h
  from_segments view i [] h at k = absurd (among_none h k)
  from_segments view i (s ∷ segments) h at k = by (from_segments view (i + 1) segments h (later_from i s segments at)) (pointwise nat_eq s.view view) refl k
    where
      later : Segmented view segments h → Segmented view (s ∷ segments) h
      later g = record { segment = g.segment; among = there s segments g.segment g.among; view_is = g.view_is; starts = g.starts; ends = g.ends; cost = g.cost; steps = g.steps }

      first : (Contains (by_segments view (i + 1) segments) h → Segmented view segments h) → pointwise nat_eq s.view view ≡ true
          → (by_segment i s ≡ h) ⊎ Contains (by_segments view (i + 1) segments) h → Segmented view (s ∷ segments) h
      first next same (inl is) = record {
        segment = s;
        among = here s segments;
        view_is = same_text s.view view (sym same);
        starts = ap (λ (g : Hop). g.from) is;
        ends = ap (λ (g : Hop). g.to) is;
        cost = ap (λ (g : Hop). g.cost) is;
        steps = sym (ap (λ o. option_map_or (λ (r : Segment). r.walk.steps) o []) (first_at i s segments at)) ∙ ap (λ (g : Hop). steps_by network g.by g.to) is;
      }
      first next same (inr behind) = later (next behind)

      by : (Contains (by_segments view (i + 1) segments) h → Segmented view segments h) → (b : Bool) → pointwise nat_eq s.view view ≡ b
          → Contains (cond b (by_segment i s ∷ by_segments view (i + 1) segments) (by_segments view (i + 1) segments)) h → Segmented view (s ∷ segments) h
      by next true same g = first next same (among_more (by_segment i s) (by_segments view (i + 1) segments) h g)
      by next false differs g = later (next g)

  -- the hop along a segment of a view that is among some
  pub record HopAlong (s : Segment) (kept : List Hop) : Type 0 where
    pub number : ℕ
    pub among : Contains kept (by_segment number s)
    pub at : slice_get network.segments number ≡ Some s

  in_segments : (view : List ℕ) (i : ℕ) (segments : List Segment) (s : Segment) → AreFrom i segments → s.view ≡ view → Contains segments s → HopAlong s (by_segments view i segments)
  in_segments view i [] s at is k = absurd (among_none s k)
  in_segments view i (r ∷ segments) s at is k = by (in_segments view (i + 1) segments s (later_from i r segments at) is) (among_more r segments s k)
    where
      by : (Contains segments s → HopAlong s (by_segments view (i + 1) segments)) → (r ≡ s) ⊎ Contains segments s → HopAlong s (by_segments view i (r ∷ segments))
      by next (inl same) =
          let passes : pointwise nat_eq r.view view ≡ true = ap (λ v. pointwise nat_eq v view) (ap (λ (g : Segment). g.view) same ∙ is) ∙ nat_list_eq_equiv.refl view in
          record {
            number = i;
            among = subst (λ b. Contains (cond b (by_segment i r ∷ by_segments view (i + 1) segments) (by_segments view (i + 1) segments)) (by_segment i s)) (sym passes)
                (subst (λ (g : Segment). Contains (by_segment i r ∷ by_segments view (i + 1) segments) (by_segment i g)) same (here (by_segment i r) (by_segments view (i + 1) segments)));
            at = first_at i r segments at ∙ ap (λ (g : Segment). let o : Option Segment = Some g in o) same;
          }
      by next (inr behind) =
          let kept = next behind in
          record {
            number = kept.number;
            among = elim (pointwise nat_eq r.view view) as (λ b. Contains (cond b (by_segment i r ∷ by_segments view (i + 1) segments) (by_segments view (i + 1) segments)) (by_segment kept.number s)) [
              | true ↦ there (by_segment i r) (by_segments view (i + 1) segments) (by_segment kept.number s) kept.among
              | false ↦ kept.among
            ];
            at = kept.at;
          }

  from_first : AreFrom 0 network.segments
  from_first k = let e : 0 + k ≡ k = omega arith in ap (slice_get network.segments) e

  -- each hop along a symbol is that of a walk along it
  pub hop_goes : (label : On) (h : Hop) → Contains (hops network label) h → WalkOf network label h
  unfolding hops
  hop_goes on.Empty h k =
      let o = from_chosen still (λ n. fits None n.labels) network.graph.nodes h k in
      still_walk on.Empty h o.0 o.1.2 (record { there = key_there (λ (n : Node). n.id) network.graph.nodes o.0 o.1.0; still = refl; free = refl })
  hop_goes (on.Test l) h k =
      let o = from_chosen still (λ n. fits (Some l) n.labels) network.graph.nodes h k in
      still_walk (on.Test l) h o.0 o.1.2 (record { node = o.0; there = o.1.0; labelled = o.1.1; still = refl; free = refl })
  hop_goes (on.Label l) h k =
      let o = from_chosen (along_edge way.Forward) (λ e. fits (Some l) e.labels) network.graph.edges h k in
      edge_walk (on.Label l) way.Forward h o.0 o.1.2 (record { edge = o.0; there = o.1.0; fits = o.1.1; goes = refl; cost = refl })
  hop_goes (on.Back l) h k =
      let o = from_chosen (along_edge way.Back) (λ e. fits (Some l) e.labels) network.graph.edges h k in
      edge_walk (on.Back l) way.Back h o.0 o.1.2 (record { edge = o.0; there = o.1.0; fits = o.1.1; goes = refl; cost = refl })
  hop_goes on.Any h k =
      let o = from_chosen (along_edge way.Forward) (λ e. fits None e.labels) network.graph.edges h k in
      edge_walk on.Any way.Forward h o.0 o.1.2 (record { edge = o.0; there = o.1.0; fits = tt; goes = refl; cost = refl })
  hop_goes on.AnyBack h k =
      let o = from_chosen (along_edge way.Back) (λ e. fits None e.labels) network.graph.edges h k in
      edge_walk on.AnyBack way.Back h o.0 o.1.2 (record { edge = o.0; there = o.1.0; fits = tt; goes = refl; cost = refl })
  hop_goes (on.View v) h k =
      let s = from_segments v 0 network.segments h from_first k in
      record {
        walk = s.segment.walk;
        goes = subst (λ c. Goes network (on.View v) s.segment.walk c) s.cost
            (subst (λ u. Contains network.segments (record { view = u; walk = s.segment.walk; cost = s.segment.cost })) s.view_is s.among);
        starts = s.starts;
        ends = s.ends;
        steps = s.steps;
      }

  still_ends : (w : Walk) → w.steps ≡ [] → w.start ≡ end_of w
  still_ends w is = sym (ap (λ steps. end_of (record { start = w.start; steps = steps })) is)

  -- each walk along a symbol has a hop
  edge_hop_of : (label : On) (w : Way) (Fits : Edge → Type 0) (walk : Walk) (c : ℕ) → (g : GoesAlong network (way_of w) Fits walk c)
      → Contains (hops network label) (along_edge w g.edge) → HopOf network label walk c
  edge_hop_of label w Fits walk c g among = record {
    hop = along_edge w g.edge;
    along = among;
    starts = sym (way_starts w g.edge) ∙ ap (λ (v : Walk). v.start) (sym g.goes);
    ends = sym (way_ends w g.edge) ∙ ap (λ (v : Walk). end_of v) (sym g.goes);
    cost = sym (way_cost w g.edge) ∙ sym g.cost;
    steps = sym (way_steps network w g.edge) ∙ ap (λ (v : Walk). v.steps) (sym g.goes);
  }

  pub goes_hop : (label : On) (w : Walk) (c : ℕ) → Goes network label w c → HopOf network label w c
  unfolding hops
  goes_hop on.Empty w c g =
      let n = there_key (λ (n : Node). n.id) network.graph.nodes w.start g.there in
      record {
        hop = still n.origin;
        along = in_chosen still (λ n. fits None n.labels) network.graph.nodes n.origin n.among refl;
        starts = n.is;
        ends = n.is ∙ still_ends w g.still;
        cost = sym g.free;
        steps = sym g.still;
      }
  goes_hop (on.Test l) w c g = record {
    hop = still g.node;
    along = in_chosen still (λ n. fits (Some l) n.labels) network.graph.nodes g.node g.there g.labelled;
    starts = ap (λ (v : Walk). v.start) (sym g.still);
    ends = ap (λ (v : Walk). end_of v) (sym g.still);
    cost = sym g.free;
    steps = ap (λ (v : Walk). v.steps) (sym g.still);
  }
  goes_hop (on.Label l) w c g =
      edge_hop_of (on.Label l) way.Forward (λ e. has text_order e.labels l ≡ true) w c g (in_chosen (along_edge way.Forward) (λ e. fits (Some l) e.labels) network.graph.edges g.edge g.there g.fits)
  goes_hop (on.Back l) w c g =
      edge_hop_of (on.Back l) way.Back (λ e. has text_order e.labels l ≡ true) w c g (in_chosen (along_edge way.Back) (λ e. fits (Some l) e.labels) network.graph.edges g.edge g.there g.fits)
  goes_hop on.Any w c g =
      edge_hop_of on.Any way.Forward (λ e. Unit {0}) w c g (in_chosen (along_edge way.Forward) (λ e. fits None e.labels) network.graph.edges g.edge g.there refl)
  goes_hop on.AnyBack w c g =
      edge_hop_of on.AnyBack way.Back (λ e. Unit {0}) w c g (in_chosen (along_edge way.Back) (λ e. fits None e.labels) network.graph.edges g.edge g.there refl)
  goes_hop (on.View v) w c g =
      let s : Segment = record { view = v; walk = w; cost = c } in
      let kept = in_segments v 0 network.segments s from_first refl g in
      record { hop = by_segment kept.number s; along = kept.among; starts = refl; ends = refl; cost = refl; steps = ap (λ o. option_map_or (λ (r : Segment). r.walk.steps) o []) kept.at }
