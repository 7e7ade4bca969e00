use Rattle.std.proofs.Common.{◌≡◌, ◌+◌, ◌<◌, ◌∙◌, ℕ, List, [], Some, ap, sym, subst, get_or, length, map, arith}
use Rattle.std.specs.List.{AllByRecursion, slice_get}
use Rattle.std.proofs.lemmas.Option.{slice_get-get_or}
use Rattle.gc_spec.specs.PropertyGraph.{node_ids}
use Rattle.gc_prod.specs.declared.moves.Pair.{Pair}
use Rattle.gc_prod.specs.Landings.{LandsAs}
use Rattle.gc_prod.specs.Leading.{target_of}
use Rattle.gc_prod.specs.Products.{Bundle, bundles}
use Rattle.gc_prod.proofs.FanLaws.{all_at}
use Rattle.gc_reach.specs.Exploring.{landed, targets_by}
use Rattle.gc_reach.specs.Marking.{Marking, visit_all}
use Rattle.gc_reach.proofs.BundleSteps.{landed_count, landed_is, moves_from, moves_left, visits_left}
use Rattle.gc_reach.proofs.exploring.expand.Goals as goal

abbrev none : Bundle
none = record { state = 0; hops = [] }

pub landing-landing-requires : goal.landing-landing-requires
landing-landing-requires g c =
    let ids = node_ids c.args.p.now.network.graph.nodes in
    record {
      place = subst (λ (l : List ℕ). c.args.at.place < length l) c.requires.nodes c.requires.place;
      leg = omega (arith, c.loop-j-test.true, c.bundle_count-j-end.ensures (get_or ids c.args.at.place 0));
    }

pub follow-requires : goal.follow-requires
follow-requires g c =
    let ids = node_ids c.args.p.now.network.graph.nodes in
    let node = get_or ids c.args.at.place 0 in
    let bs = bundles c.args.p.now node c.args.at.state in
    let j = c.loop-j.j in
    let below : j < length bs = omega (arith, c.loop-j-test.true, c.bundle_count-j-end.ensures node) in
    let b = get_or bs j none in
    let at : slice_get bs j ≡ Some b = slice_get-get_or bs j none below in
    let low = all_at (λ (b : Bundle). b.state < c.args.marks.now.width) bs j b (c.requires.width node c.args.at.state) at in
    record {
      within = subst (λ (l : List ℕ). AllByRecursion (λ p. p < length l) c.landing-landing.result.places) (sym (c.loop-j.invariant.nodes ∙ c.requires.nodes)) c.landing-landing.ensures.within;
      state = omega (arith, (c.landing-landing.ensures.exact b at).state, low, c.loop-j.invariant.width);
    }

pub returns-in_err-follow-clause-few : goal.returns-in_err-follow-clause-few
returns-in_err-follow-clause-few g c =
    let nodes = c.args.marks.now.nodes in
    let place = c.args.at.place in
    let state = c.args.at.state in
    let setting = c.args.p.now in
    let bs = bundles setting (get_or nodes place 0) state in
    let j = c.loop-j.j in
    let l = c.landing-landing.result in
    let below : j < length bs = omega (arith, c.loop-j-test.true, c.bundle_count-j-end.ensures (get_or nodes place 0)) in
    let b = get_or bs j none in
    let at : slice_get bs j ≡ Some b = slice_get-get_or bs j none below in
    let lands = subst (λ (ids : List ℕ). (b : Bundle) → slice_get (bundles setting (get_or ids place 0) state) j ≡ Some b → LandsAs ids l b) (sym c.requires.nodes) c.landing-landing.ensures.exact in
    omega (arith, c.loop-j.invariant.few, c.landing-landing.ensures.step, moves_left bs j b at, landed_count nodes l b (lands b at))

pub loop-j-preserved : goal.loop-j-preserved
loop-j-preserved g c =
    let nodes = c.args.marks.now.nodes in
    let place = c.args.at.place in
    let state = c.args.at.state in
    let setting = c.args.p.now in
    let bs = bundles setting (get_or nodes place 0) state in
    let j = c.loop-j.j in
    let l = c.landing-landing.result in
    let inv = c.loop-j.invariant in
    let pairs = c.loop-j.marks.pairs in
    let below : j < length bs = omega (arith, c.loop-j-test.true, c.bundle_count-j-end.ensures (get_or nodes place 0)) in
    let b = get_or bs j none in
    let at : slice_get bs j ≡ Some b = slice_get-get_or bs j none below in
    let lands = subst (λ (ids : List ℕ). (b : Bundle) → slice_get (bundles setting (get_or ids place 0) state) j ≡ Some b → LandsAs ids l b) (sym c.requires.nodes) c.landing-landing.ensures.exact in
    let led : landed c.loop-j.marks.nodes l ≡ targets_by b = ap (λ ids. landed ids l) inv.nodes ∙ landed_is nodes l b (lands b at) in
    let grown = c.in_ok-follow.ensures in
    record {
      nodes = ap (λ (m : Marking). m.nodes) grown ∙ inv.nodes;
      width = ap (λ (m : Marking). m.width) grown ∙ inv.width;
      rest =
          ap (λ (m : Marking). visit_all m.pairs (map target_of (moves_from bs (j + 1)))) grown
          ∙ (ap (λ (ps : List Pair). visit_all (visit_all pairs ps) (map target_of (moves_from bs (j + 1)))) led ∙ (visits_left bs j b at pairs ∙ inv.rest));
      few = omega (arith, inv.few, c.landing-landing.ensures.step, moves_left bs j b at, landed_count nodes l b (lands b at));
    }
