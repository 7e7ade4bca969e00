use Rattle.std.proofs.Common.{◌<◌, ◌≤◌, ◌==◌, ◌∙◌, ℕ, ap, sym, subst, List, map}
use Rattle.std.specs.List.{AllByRecursion}
use Rattle.std.specs.Ordering.{nat_cmp}
use Rattle.gc_base.specs.Ascending.{Ascends}
use Rattle.gc_base.proofs.SetLaws.{AllByRecursion-filter}
use Rattle.gc_prod.specs.declared.preparing.Leg.{Leg}
use Rattle.gc_prod.specs.Keys.{at_key}
use Rattle.gc_prod.specs.Places.{place_in}
use Rattle.gc_prod.specs.Preparing.{HasTargets, leg_bundle, leg_bundles}
use Rattle.gc_prod.proofs.Networks.{ids_ascend, network_is}
use Rattle.gc_prod.proofs.product.Product.of.Goals as goal

pub legs-requires : goal.legs-requires
legs-requires g c =
    let is = c.deref.ensures.value ∙ c.in_ok-nodes.ensures.exact in
    record {
      none = c.new-fans.ensures.items;
      network = network_is (record { graph = c.args.graph.now; segments = c.args.segments.now }) c.node_list.ensures.valid c.requires;
      nodes = is;
      ascend = subst (λ (ids : List ℕ). Ascends nat_cmp ids) (sym is) (ids_ascend c.args.graph.now.nodes c.node_list.ensures.valid.nodes_ascend);
    }

pub invariant_of-result : goal.invariant_of-result
invariant_of-result g c =
    let nodes = c.in_ok-nodes.nodes.items in
    let fans = c.legs.new.fans.items in
    let list = c.in_ok-list.list.items in
    let width = c.width_of-width.result in
    record {
      graph = c.node_list.ensures.valid;
      segments = c.requires;
      ids = c.in_ok-nodes.ensures.exact;
      led = λ node state.
          ap (map (leg_bundle fans (place_in nodes node))) (c.in_ok-legs.ensures state ∙ ap (λ (ls : List Leg). at_key (λ leg. leg.from) state ls) c.deref-3.ensures.value)
          ∙ (ap (λ ids. leg_bundles fans list (place_in ids node) state) (sym c.deref.ensures.value) ∙ c.in_ok-list.ensures.led node state);
      targets = subst (λ (ids : List ℕ). AllByRecursion (HasTargets ids) fans) c.deref.ensures.value c.in_ok-list.ensures.targets;
      states = subst (λ n. n ≤ width) c.states.ensures c.width_of-width.ensures.states;
      some = c.width_of-width.ensures.some;
      above = λ state.
          subst (λ (ls : List Leg). AllByRecursion (λ leg. leg.to < width) ls) (sym (c.in_ok-legs.ensures state ∙ ap (λ (ls : List Leg). at_key (λ leg. leg.from) state ls) c.deref-3.ensures.value))
          (AllByRecursion-filter (λ (leg : Leg). leg.to < width) (λ leg. leg.from == state) list
          (subst (λ (ls : List Leg). AllByRecursion (λ leg. leg.to < width) ls) c.deref-2.ensures.value c.width_of-width.ensures.above));
    }
