use Rattle.std.proofs.Common.{◌≡◌, ◌<◌, ◌++◌, ℕ, drop, map, length}
use Rattle.std.specs.List.{AllByRecursion}
use Rattle.gc_spec.specs.PropertyGraph.{node_ids}
use Rattle.gc_prod.specs.Places.{place_in}
use Rattle.gc_prod.specs.Preparing.{HasTargets, IsFan, leg_bundles}
use Rattle.gc_prod.specs.Products.{bundle_of, bundles, leaving}
use Rattle.gc_prod.proofs.preparing.legs.Given as goal

abbrev pub invariant-loop-i : goal.invariant-loop-i
invariant-loop-i g l =
    record {
      whole : (node state : ℕ) → leg_bundles l.fans.items l.legs.items (place_in (node_ids l.graph.nodes) node) state ++ map (bundle_of (record { graph = l.graph; segments = l.segments }) node) (leaving state (drop l.i l.automaton.transitions))
          ≡ bundles (record { network = record { graph = l.graph; segments = l.segments }; machine = l.automaton }) node state;
      within : AllByRecursion (λ leg. leg.fan < length l.fans.items) l.legs.items;
      targets : AllByRecursion (HasTargets l.nodes) l.fans.items;
      fans : AllByRecursion (IsFan (record { graph = l.graph; segments = l.segments }) l.automaton.transitions) l.fans.items;
    }
