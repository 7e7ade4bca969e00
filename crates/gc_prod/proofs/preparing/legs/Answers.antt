use Rattle.std.proofs.Common.{◌≡◌, ◌+◌, ◌<◌, ◌∷◌, [], ◌++◌, ◌∙◌, ap, sym, subst, List, map, drop, length}
use Rattle.std.specs.List.{AllByRecursion}
use Rattle.gc_automata.specs.Moves.{Network}
use Rattle.gc_prod.specs.declared.preparing.Leg.{Leg}
use Rattle.gc_spec.specs.PropertyGraph.{node_ids}
use Rattle.gc_prod.specs.Places.{place_in}
use Rattle.gc_prod.specs.Preparing.{leg_bundles}
use Rattle.gc_prod.specs.Products.{bundles, bundle_of, leaving}
use Rattle.gc_prod.proofs.FanLaws.{leg_more, legs_within, none_left}
use Rattle.gc_prod.proofs.preparing.legs.Goals as goal

pub returns-in-None : goal.returns-in-None
returns-in-None g c = record {
  targets = c.loop-i.invariant.targets;
  led = λ node state.
      let place = place_in (node_ids c.args.graph.now.nodes) node in
      ap (λ ids. leg_bundles c.loop-i.fans.items c.loop-i.legs.items (place_in ids node) state) c.requires.nodes
      ∙ none_left (record { graph = c.args.graph.now; segments = c.args.segments.now }) c.args.automaton.now.transitions c.loop-i.i node state
      (leg_bundles c.loop-i.fans.items c.loop-i.legs.items place state) _ (sym c.in-None.ensures) (c.loop-i.invariant.whole node state);
}

pub loop-i-preserved : goal.loop-i-preserved
loop-i-preserved g c =
    let network : Network = record { graph = c.args.graph.now; segments = c.args.segments.now } in
    let transitions = c.args.automaton.now.transitions in
    let t = c.in-Some.transition.now in
    let k = c.in_ok-fan-in-Some.fan in
    let before = c.loop-i.fans.items in
    let after = c.fan_for.new.fans.items in
    let legs = c.loop-i.legs.items in
    let leg : Leg = record { from = t.from; to = t.to; fan = k } in
    let grown : c.push.new.self.items ≡ legs ++ leg ∷ [] = c.in_ok-push-in-Some.ensures.items in
    record {
      whole = λ node state.
          ap (λ (ls : List Leg). leg_bundles after ls (place_in (node_ids c.args.graph.now.nodes) node) state ++ map (bundle_of network node) (leaving state (drop (c.loop-i.i + 1) transitions))) grown
          ∙ leg_more network transitions c.loop-i.i k t before after legs (bundles (record { network = network; machine = c.args.automaton.now }))
          (sym c.in-Some.ensures) c.in_ok-fan-in-Some.ensures.fan c.loop-i.invariant.within c.loop-i.invariant.whole node state;
      within = subst (λ (ls : List Leg). AllByRecursion (λ leg. leg.fan < length after) ls) (sym grown)
          (legs_within network transitions k t before after legs c.in_ok-fan-in-Some.ensures.fan c.loop-i.invariant.within);
      targets = c.in_ok-fan-in-Some.ensures.targets;
      fans = c.in_ok-fan-in-Some.ensures.fan.fans;
    }
