-- The documents of the searches for the walks of a pattern are what is told of it.
use Rattle.std.proofs.Common.{◌≡◌, ⊎_elim, ℕ, List, [], ◌∷◌, map, Option, None, Some, refl, sym, ap, ◌∙◌, subst, slice_get, true, cond}
use Rattle.std.specs.declared.cmp.Ordering.TheVariants.{Less}
use Rattle.std.specs.List.{AllByRecursion, Contains}
use Rattle.std.specs.Option.{option_to_list}
use Rattle.std.specs.Ordering.{nat_cmp, on}
use Rattle.std.proofs.lemmas.List.{append-nil}
use Rattle.gc_base.specs.Ascending.{Ascends}
use Rattle.gc_base.specs.Walks.{end_of}
use Rattle.gc_base.specs.declared.place.Sym.{Sym}
use Rattle.gc_base.specs.declared.walk.Walk.{Walk}
use Rattle.gc_spec.specs.PropertyGraph.{PropertyGraph, is_among, node_ids}
use Rattle.gc_base.proofs.SetLaws.{filter-passes}
use Rattle.gc_automata.specs.Conformance.{Conforms}
use Rattle.gc_automata.specs.Machines.{IsAutomatonOf}
use Rattle.gc_automata.specs.Moves.{IsNetwork, IsThere, Network, Segment}
use Rattle.gc_automata.proofs.Inclusion.{among_more, among_none}
use Rattle.gc_automata.proofs.Lawful.{Lawful, conforms_lawful}
use Rattle.gc_regx.specs.Expressions.{HasParts}
use Rattle.gc_regx.specs.Trees.{RegexTree, ARegex}
use Rattle.gc_rows.specs.Rows.{datum_at}
use Rattle.gc_rows.specs.Tables.{HasExactly}
use Rattle.gc_rows.specs.declared.datum.Datum.{Datum}
use Rattle.gc_rows.specs.declared.datum.Datum.TheVariants as datum
use Rattle.gc_rows.specs.declared.row.Binding.{Binding}
use Rattle.gc_rows.proofs.Members.{contains_here, each_member, from_flat_map, from_map, of_member, to_flat_map, to_map}
use Rattle.gc_prod.specs.Products.{Setting}
use Rattle.gc_alg.specs.FirstWalks.{AreFirst, CostedWalk}
use Rattle.gc_alg.specs.Instances.{search}
use Rattle.gc_walks.specs.Databases.{used_segments}
use Rattle.gc_cert.specs.Acceptance.{IsProductOf, network_of}
use Rattle.gc_cert.specs.declared.document.SearchDoc.{SearchDoc}
use Rattle.gc_cert.specs.declared.document.WalkDoc.{WalkDoc}
use Rattle.gc_cert_searches.specs.declared.ends.WalkEnds.{WalkEnds}
use Rattle.gc_cert_searches.specs.BoundWalks.{IsBound, IsBoundFrom, IsSource}
use Rattle.gc_cert_searches.specs.Found.{AreAdded, AreDocsOf, AreFirstBy, IsDocOf, IsEndsOf, IsFirst, IsStart, network_on, HasWalk}
use Rattle.gc_cert_searches.specs.Patterns.{Pattern}
use Rattle.gc_cert_searches.specs.Readings.{ends_if, ends_in, ends_on}
use Rattle.gc_cert_searches.specs.Searches.{Matched, AreSearchesFor, AreSearchesInTurn, AreThose, IsAccepted, IsSearchOf, AreLow}
use Rattle.gc_cert_searches.specs.SegmentOrder.{segment_order}
use Rattle.gc_cert_searches.proofs.OneFirst.{one_first}
use Rattle.gc_cert_searches.proofs.SameSegments.{first_too}

some_same : {X : Type 0} (a b : X) → Some a ≡ Some b → a ≡ b
some_same a b h = cc

-- the ends that are read of rows are those of the walks that they bind
abbrev ends_are : Walk → WalkEnds
ends_are w = record { start = w.start; target = end_of w }

of_datum : (o : Option Datum) (e : WalkEnds) → Contains (option_to_list (ends_if o)) e → (w : Walk) × (o ≡ Some (datum.Found w)) × (e ≡ ends_are w)
of_datum None e m = absurd (among_none e m)
of_datum (Some (datum.Found w)) e m = (w, refl, ⊎_elim (λ s. sym s) (λ k. absurd (among_none e k)) (among_more (ends_are w) [] e m))
of_datum (Some d) e m = absurd (among_none e m)

pub ends_bound : (p : Sym) (rows : List (List Binding)) (e : WalkEnds) → Contains (ends_in p rows) e → (w : Walk) × IsBound rows p w × (e ≡ ends_are w)
ends_bound p rows e m =
    let from = from_flat_map (λ row. option_to_list (ends_if (datum_at row p))) rows e m in
    let w = of_datum (datum_at from.0 p) e from.2 in
    (w.0, record { row = from.0; among = from.1; bound = w.1 }, w.2)

pub bound_ends : (p : Sym) (rows : List (List Binding)) (w : Walk) → IsBound rows p w → Contains (ends_in p rows) (ends_are w)
bound_ends p rows w bound =
    to_flat_map (λ row. option_to_list (ends_if (datum_at row p))) rows bound.row (ends_are w) bound.among
    (subst (λ (o : Option Datum). Contains (option_to_list (ends_if o)) (ends_are w)) (sym bound.bound) (contains_here (ends_are w) []))

ends_same : (e : WalkEnds) (s t : ℕ) → e.start ≡ s → e.target ≡ t → e ≡ record { start = s; target = t }
ends_same e s t a b = λ i. record { start = a i; target = b i }

-- walks ascend by where they end, where these ends ascend
above_ends : (w : WalkDoc) (walks : List WalkDoc) → AllByRecursion (λ n. nat_cmp (end_of w.walk) n ≡ Less) (map (λ v. end_of v.walk) walks)
    → AllByRecursion (λ v. on end_of nat_cmp w.walk v ≡ Less) (map (λ v. v.walk) walks)
above_ends w [] h = tt
above_ends w (v ∷ walks) h = (h.0, above_ends w walks h.1)

walks_ascend : (walks : List WalkDoc) → Ascends nat_cmp (map (λ w. end_of w.walk) walks) → Ascends (on end_of nat_cmp) (map (λ w. w.walk) walks)
walks_ascend [] h = tt
walks_ascend (w ∷ walks) h = (above_ends w walks h.0, walks_ascend walks h.1)

module _ (m : Matched) (f : Pattern) (g : PropertyGraph) (there : slice_get m.graphs f.graph ≡ Some g)
    (setting : Setting) (segments : List Segment) (network : setting.network ≡ record { graph = g; segments = segments })
    (law : IsNetwork (network_on m f g)) (other_law : IsNetwork (record { graph = g; segments = segments })) (parts : HasParts f.expression) (is : IsAutomatonOf f.expression setting.machine)
    (ascend : Ascends segment_order segments) (exact : HasExactly (used_segments m.segments f.graph f.views) segments) where
  abbrev ends : List WalkEnds
  ends = ends_in f.path m.rows

  abbrev own : Network
  own = record { graph = g; segments = segments }

  lawful : IsNetwork setting.network
  lawful = subst IsNetwork (sym network) other_law

  conforming_starts : (w : Walk) (c : ℕ) → Conforms setting.network f.expression w c → IsThere setting.network w.start
  unfolding Lawful
  conforming_starts w c h = (conforms_lawful setting.network lawful f.expression).starts w c h

  -- a document is of the product, and accepted
  module _ (kept : List WalkEnds) (d : SearchDoc) (told : IsDocOf setting f.expression kept d) where
    alike_of : own ≡ network_of d
    alike_of = sym network ∙ told.doc.network

    product_of : IsProductOf d setting
    product_of = record { network = told.doc.network; automaton = subst (λ (t : RegexTree ARegex). IsAutomatonOf t setting.machine) (sym told.doc.expression) is }

    search_accepted : IsAccepted d
    search_accepted = record { setting = setting; product = product_of; accepts = told.doc.accepts }

  module _ (first : AreFirstBy m f) where
    -- a walk that the rows bind is the first in the product too
    bound_first : (w : Walk) → IsBound m.rows f.path w → IsFirst setting.network f.expression w
    bound_first w bound =
        let by = first w bound in
        let same : by.graph ≡ g = some_same by.graph g (sym by.there ∙ there) in
        let here : IsFirst (network_on m f g) f.expression w = subst (λ (h : PropertyGraph). IsFirst (network_on m f h) f.expression w) same by.first in
        subst (λ (n : Network). IsFirst n f.expression w) (sym network) (record {
          cost = here.cost;
          first =
              first_too g (used_segments m.segments f.graph f.views) segments exact law other_law f.expression parts w.start (end_of w) 1
              (record { walk = w; cost = here.cost } ∷ []) here.first;
        })

    -- so walks conform between the ends that are read
    pub walks_conform : AllByRecursion (IsEndsOf setting.network f.expression) ends
    walks_conform =
        each_member (IsEndsOf setting.network f.expression) ends (λ e among.
        let w = ends_bound f.path m.rows e among in
        let one = bound_first w.0 w.1 in
        let costed : CostedWalk = record { walk = w.0; cost = one.cost } in
        let so = one.first.sound costed (contains_here costed []) in
        subst (IsEndsOf setting.network f.expression) (sym w.2) (record { there = conforming_starts w.0 one.cost so.conforms; walk = (costed, so) }))

    -- the same walk, where both are first between the same ends
    same_walk : (v w : Walk) → IsFirst setting.network f.expression v → IsFirst setting.network f.expression w → v.start ≡ w.start → end_of v ≡ end_of w → v ≡ w
    same_walk v w a b starts ends_at =
        let mine : AreFirst (search setting.network f.expression w.start (end_of w)) 1 (record { walk = v; cost = a.cost } ∷ []) =
        subst (λ t. AreFirst (search setting.network f.expression w.start t) 1 (record { walk = v; cost = a.cost } ∷ [])) ends_at
        (subst (λ s. AreFirst (search setting.network f.expression s (end_of v)) 1 (record { walk = v; cost = a.cost } ∷ [])) starts a.first) in
        let same = one_first (search setting.network f.expression w.start (end_of w)) (record { walk = v; cost = a.cost }) (record { walk = w; cost = b.cost }) mine b.first in
        ap (λ (u : CostedWalk). u.walk) same

    module _ (d : SearchDoc) (told : IsDocOf setting f.expression ends d) where
      -- one walk is told to each target
      ends_told : map (λ (u : WalkDoc). end_of u.walk) d.walks ≡ told.targets
      ends_told =
          told.doc.ends (each_member (HasWalk setting.network f.expression d.start) told.targets (λ t among.
          (of_member (IsEndsOf setting.network f.expression) ends (record { start = d.start; target = t }) walks_conform ((told.those.exact t).0 among)).walk))

      -- a walk of the document is one that the rows bind
      is_bound : (v : WalkDoc) → Contains d.walks v → IsBoundFrom m.rows f.path d.start v.walk
      is_bound v among =
          let target = subst (λ ts. Contains ts (end_of v.walk)) ends_told (to_map (λ (u : WalkDoc). end_of u.walk) d.walks v among) in
          let at = ends_bound f.path m.rows (record { start = d.start; target = end_of v.walk }) ((told.those.exact (end_of v.walk)).0 target) in
          let w = at.0 in
          let start : d.start ≡ w.start = ap (λ (e : WalkEnds). e.start) at.2 in
          let end : end_of v.walk ≡ end_of w = ap (λ (e : WalkEnds). e.target) at.2 in
          let one = of_member (λ (u : WalkDoc). IsFirst setting.network f.expression u.walk) d.walks v told.doc.first among in
          let begins : v.walk.start ≡ d.start = (of_member _ d.walks v told.doc.told among).run.begins in
          let same : v.walk ≡ w = same_walk v.walk w one (bound_first w at.1) (begins ∙ start) end in
          record { bound = subst (IsBound m.rows f.path) (sym same) at.1; starts = begins }

      -- a walk that the rows bind is one of the document
      is_listed : (w : Walk) → IsBoundFrom m.rows f.path d.start w → Contains (map (λ v. v.walk) d.walks) w
      is_listed w bound =
          let e = bound_ends f.path m.rows w bound.bound in
          let here : Contains ends (record { start = d.start; target = end_of w }) = subst (Contains ends) (ends_same (ends_are w) d.start (end_of w) bound.starts refl) e in
          let target = (told.those.exact (end_of w)).1 here in
          let at = from_map (λ (u : WalkDoc). end_of u.walk) d.walks (end_of w) (subst (λ ts. Contains ts (end_of w)) (sym ends_told) target) in
          let v = at.0 in
          let one = of_member (λ (u : WalkDoc). IsFirst setting.network f.expression u.walk) d.walks v told.doc.first at.1 in
          let begins : v.walk.start ≡ d.start = (of_member _ d.walks v told.doc.told at.1).run.begins in
          let same : v.walk ≡ w = same_walk v.walk w one (bound_first w bound.bound) (begins ∙ sym bound.starts) (sym at.2) in
          subst (Contains (map (λ (u : WalkDoc). u.walk) d.walks)) same (to_map (λ (u : WalkDoc). u.walk) d.walks v at.1)

      pub search_told : IsSearchOf m f d
      search_told = record {
        expression = told.doc.expression;
        graph = there ∙ ap (λ (n : Network). Some n.graph) (alike_of ends d told);
        segments =
            subst (AreThose segment_order (Contains (used_segments m.segments f.graph f.views))) (ap (λ (n : Network). n.segments) (alike_of ends d told))
            (record { ascend = ascend; exact = λ s. (exact.sound s, exact.complete s) });
        setting = setting;
        product = product_of ends d told;
        potentials = told.doc.potentials;
        walks = record {
          ascend = walks_ascend d.walks (subst (Ascends nat_cmp) (sym ends_told) told.those.ascend);
          exact = λ w. (
            λ among. let at = from_map (λ (u : WalkDoc). u.walk) d.walks w among in subst (IsBoundFrom m.rows f.path d.start) (sym at.2) (is_bound at.0 at.1),
            λ bound. is_listed w bound,
          );
        };
        told = told.doc.told;
      }

    start_source : (s : ℕ) → IsStart ends s → IsSource m.rows f.path s
    start_source s h =
        let at = ends_bound f.path m.rows (record { start = s; target = h.0 }) h.1 in
        (at.0, record { bound = at.1; starts = sym (ap (λ (e : WalkEnds). e.start) at.2) })

    source_start : (s : ℕ) → IsSource m.rows f.path s → IsStart ends s
    source_start s h =
        let w = h.0 in
        (end_of w, subst (Contains ends) (ends_same (ends_are w) s (end_of w) h.1.starts refl) (bound_ends f.path m.rows w h.1.bound))

  kept_all : (xs : List WalkEnds) → AllByRecursion (IsEndsOf setting.network f.expression) xs → ends_on g xs ≡ xs
  kept_all [] h = refl
  kept_all (e ∷ xs) h =
      let here : is_among (node_ids g.nodes) e.start ≡ true = subst (λ (n : Network). IsThere n e.start) network h.0.there in
      ap (λ b. cond b (e ∷ ends_on g xs) (ends_on g xs)) here ∙ ap (λ ys. e ∷ ys) (kept_all xs h.1)

  -- those that are kept start at nodes
  pub kept_there : (xs : List WalkEnds) → AllByRecursion (λ (e : WalkEnds). IsThere setting.network e.start) (ends_on g xs)
  kept_there xs =
      subst (λ (n : Network). AllByRecursion (λ (e : WalkEnds). IsThere n e.start) (ends_on g xs)) (sym network)
      (filter-passes (λ (e : WalkEnds). is_among (node_ids g.nodes) e.start) xs)

  -- all documents of a pattern, where the walks that the rows bind are the first by it
  told_for : AreFirstBy m f → (old now : List SearchDoc) → (docs : AreDocsOf setting f.expression ends old now) → AreSearchesInTurn m (f ∷ []) docs.docs.added
  told_for first old now docs =
      let added = docs.docs.added in
      let ours : AreSearchesFor m f added = record {
        sources =
            subst (AreThose nat_cmp (IsSource m.rows f.path)) (sym docs.docs.starts)
            (record { ascend = docs.those.ascend; exact = λ s. (λ among. start_source first s ((docs.those.exact s).0 among), λ h. (docs.those.exact s).1 (source_start first s h)) });
        each = each_member (IsSearchOf m f) added (λ d among. search_told first d (of_member (IsDocOf setting f.expression ends) added d docs.docs.each among));
      } in
      record { first = added; later = []; whole = sym (append-nil added); ours = ours; others = refl }

  told_on : AreFirstBy m f → (es : List WalkEnds) → es ≡ ends → (old now : List SearchDoc) → (docs : AreDocsOf setting f.expression es old now) → AreSearchesInTurn m (f ∷ []) docs.docs.added
  told_on first es same =
      subst (λ (zs : List WalkEnds). (old now : List SearchDoc) → (docs : AreDocsOf setting f.expression zs old now) → AreSearchesInTurn m (f ∷ []) docs.docs.added) (sym same) (told_for first)

  pub all_told : (old now : List SearchDoc) → AreDocsOf setting f.expression (ends_on g ends) old now → AreAdded m (f ∷ []) old now
  all_told old now docs = record {
    added = docs.docs.added;
    whole = docs.docs.whole;
    told = λ all. told_on all.0 (ends_on g ends) (kept_all ends (walks_conform all.0)) old now docs;
    accepted =
        each_member IsAccepted docs.docs.added
        (λ d among. search_accepted (ends_on g ends) d (of_member (IsDocOf setting f.expression (ends_on g ends)) docs.docs.added d docs.docs.each among));
    low = each_member AreLow docs.docs.added (λ d among. (of_member (IsDocOf setting f.expression (ends_on g ends)) docs.docs.added d docs.docs.each among).doc.low);
  }

-- without its graph a pattern has no walks
pub none_told : (m : Matched) (f : Pattern) → slice_get m.graphs f.graph ≡ None → (old : List SearchDoc) → AreAdded m (f ∷ []) old old
none_told m f none old = record { added = []; whole = sym (append-nil old); told = λ all. record { first = []; later = []; whole = refl; ours = ours all.0; others = refl }; accepted = tt; low = tt }
  where
    missing : (g : PropertyGraph) → None ≡ Some g → ⊥
    missing g h = cc

    ours : AreFirstBy m f → AreSearchesFor m f []
    ours first = record {
      sources = record { ascend = tt; exact = λ s. (λ among. absurd (among_none s among), λ h. absurd (missing (first h.0 h.1.bound).graph (sym none ∙ (first h.0 h.1.bound).there))) };
      each = tt;
    }
