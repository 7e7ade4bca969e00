use Rattle.std.proofs.Common.{◌≡◌, ◌<◌, ◌∙◌, ℕ, List, Some, map, length, get_or, ap, sym, subst, arith}
use Rattle.std.specs.List.{slice_get}
use Rattle.std.specs.Option.{option_map}
use Rattle.std.specs.Ordering.{nat_cmp}
use Rattle.std.proofs.lemmas.List.{length-map}
use Rattle.std.proofs.lemmas.Option.{slice_get-get_or, slice_get-map}
use Rattle.gc_base.specs.Ascending.{Ascends}
use Rattle.gc_automata.specs.Moves.{IsNetwork, Network}
use Rattle.gc_prod.specs.declared.preparing.Fan.{Fan}
use Rattle.gc_prod.specs.declared.preparing.Leg.{Leg}
use Rattle.gc_prod.specs.Groups.{row_of}
use Rattle.gc_prod.specs.Places.{place_in}
use Rattle.gc_prod.specs.Preparing.{leg_bundle}
use Rattle.gc_prod.specs.Products.{Setting, Bundle, bundles}
use Rattle.gc_prod.proofs.Networks.{ids_ascend, network_is}
use Rattle.gc_prod.proofs.product.Product.bundle_at.Goals as goal

pub place_of-place-requires : goal.place_of-place-requires
place_of-place-requires c =
    subst (λ (ids : List ℕ). Ascends nat_cmp ids) (sym (c.deref.ensures.value ∙ c.self.invariant.ids)) (ids_ascend c.self.inside.graph.now.nodes c.self.invariant.graph.nodes_ascend)

pub returns-clause-exact : goal.returns-clause-exact
returns-clause-exact c =
    let none : Leg = record { from = 0; to = 0; fan = 0 } in
    let node = c.args.node in
    let state = c.args.state in
    let j = c.args.j in
    let fans = c.self.inside.fans.items in
    let place = place_in c.self.inside.nodes.items node in
    let legs = row_of c.self.inside.legs state in
    let f = leg_bundle fans place in
    let whole : map f legs ≡ bundles c.args.self.now node state = c.self.invariant.led node state ∙ ap (λ (s : Setting). bundles s node state) c.self.view_is in
    let below : j < length legs = omega (arith, c.requires, ap length whole, length-map legs f) in
    let is : c.along.result ≡ f (get_or legs j none) =
    c.along.ensures
    ∙ (ap (λ (fs : List Fan). leg_bundle fs c.place_of-place.result (get_or c.at-legs.result.now j none)) c.deref-2.ensures.value
    ∙ (ap (λ n. leg_bundle fans n (get_or c.at-legs.result.now j none)) (c.place_of-place.ensures.place ∙ ap (λ ids. place_in ids node) c.deref.ensures.value)
    ∙ ap (λ (ls : List Leg). f (get_or ls j none)) c.at-legs.ensures)) in
    sym (ap (λ (bs : List Bundle). slice_get bs j) whole)
    ∙ (slice_get-map f legs j ∙ (ap (option_map f) (slice_get-get_or legs j none below) ∙ ap (λ (b : Bundle). Some b) (sym is)))

pub returns-clause-network : goal.returns-clause-network
returns-clause-network c =
    let network : Network = record { graph = c.self.inside.graph.now; segments = c.self.inside.segments.now } in
    subst (λ (s : Setting). IsNetwork s.network) c.self.view_is (network_is network c.self.invariant.graph c.self.invariant.segments)
