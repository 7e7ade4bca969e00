use Rattle.std.proofs.Common.{◌≡◌, ◌<◌, ◌∙◌, ℕ, List, Some, map, length, get_or, ap, sym, subst, arith}
use Rattle.std.specs.List.{AllByRecursion, slice_get}
use Rattle.std.specs.Ordering.{nat_cmp}
use Rattle.std.proofs.lemmas.List.{length-map}
use Rattle.std.proofs.lemmas.Option.{slice_get-get_or}
use Rattle.gc_base.specs.Ascending.{Ascends}
use Rattle.gc_spec.specs.PropertyGraph.{node_ids}
use Rattle.gc_automata.specs.Moves.{IsNetwork}
use Rattle.gc_prod.specs.declared.preparing.Fan.{Fan}
use Rattle.gc_prod.specs.declared.preparing.Leg.{Leg}
use Rattle.gc_prod.specs.Groups.{row_of}
use Rattle.gc_prod.specs.Landings.{Landing, Lands, LandsAs}
use Rattle.gc_prod.specs.Places.{place_in}
use Rattle.gc_prod.specs.Preparing.{HasTargets, leg_bundle, leg_landing}
use Rattle.gc_prod.specs.Products.{Setting, bundles}
use Rattle.gc_prod.proofs.LandingLaws.{lands_as, lands_within}
use Rattle.gc_prod.proofs.Networks.{ids_ascend, network_is}
use Rattle.gc_prod.proofs.product.Product.landing_at.Goals as goal

pub returns : goal.returns
returns c =
    let none : Leg = record { from = 0; to = 0; fan = 0 } in
    let inside = c.self.inside in
    let inv = c.self.invariant in
    let s : Setting = record { network = record { graph = inside.graph.now; segments = inside.segments.now }; machine = inside.automaton.now } in
    let view : s ≡ c.args.self.now = c.self.view_is in
    let nodes = node_ids s.network.graph.nodes in
    let place = c.args.place in
    let state = c.args.state in
    let j = c.args.j in
    let node = get_or nodes place 0 in
    let fans = inside.fans.items in
    let legs = row_of inside.legs state in
    let below : place < length nodes = subst (λ (t : Setting). place < length (node_ids t.network.graph.nodes)) (sym view) c.requires.place in
    let led : map (leg_bundle fans (place_in nodes node)) legs ≡ bundles s node state =
    ap (λ ids. map (leg_bundle fans (place_in ids node)) legs) (sym inv.ids) ∙ inv.led node state in
    let within : j < length (bundles s node state) = subst (λ (t : Setting). j < length (bundles t (get_or (node_ids t.network.graph.nodes) place 0) state)) (sym view) c.requires.leg in
    let leg_below : j < length legs = omega (arith, within, ap length led, length-map legs (leg_bundle fans (place_in nodes node))) in
    let leg = get_or legs j none in
    let at : slice_get legs j ≡ Some leg = slice_get-get_or legs j none leg_below in
    let all : AllByRecursion (HasTargets nodes) fans = subst (λ (ids : List ℕ). AllByRecursion (HasTargets ids) fans) inv.ids inv.targets in
    let law : IsNetwork s.network = network_is s.network inv.graph inv.segments in
    let up : Ascends nat_cmp nodes = ids_ascend s.network.graph.nodes inv.graph.nodes_ascend in
    let is : c.landed.result ≡ leg_landing fans place leg =
    c.landed.ensures
    ∙ (ap (λ (fs : List Fan). leg_landing fs place (get_or c.at-legs.result.now j none)) c.deref.ensures.value
    ∙ ap (λ (ls : List Leg). leg_landing fans place (get_or ls j none)) c.at-legs.ensures) in
    record {
      exact = subst (λ (t : Setting). Lands t place state j c.landed.result) view
          (λ b h. subst (λ (l : Landing). LandsAs nodes l b) (sym is) (lands_as s law fans up all legs place state j leg below led at b h));
      within = subst (λ (t : Setting). AllByRecursion (λ p. p < length (node_ids t.network.graph.nodes)) c.landed.result.places) view
          (subst (λ (l : Landing). AllByRecursion (λ p. p < length nodes) l.places) (sym is) (lands_within s law fans up all legs place state j leg below led at));
    }
