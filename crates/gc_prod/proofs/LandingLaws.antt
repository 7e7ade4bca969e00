-- Where hops lead, by the places of nodes.
use Rattle.std.proofs.Common.{◌≡◌, ℕ, ◌<◌, List, [], map, length, get_or, Option, Some, None, refl, sym, ap, subst, ◌∙◌}
use Rattle.std.specs.List.{AllByRecursion, slice_get}
use Rattle.std.specs.Option.{option_map, option_map_or}
use Rattle.std.specs.Ordering.{nat_cmp}
use Rattle.std.proofs.lemmas.Option.{slice_get-map}
use Rattle.gc_base.specs.Ascending.{Ascends}
use Rattle.gc_spec.specs.PropertyGraph.{node_ids}
use Rattle.gc_automata.specs.Moves.{IsNetwork, IsThere}
use Rattle.gc_prod.specs.declared.moves.Hop.{Hop}
use Rattle.gc_prod.specs.declared.preparing.Fan.{Fan}
use Rattle.gc_prod.specs.declared.preparing.Leg.{Leg}
use Rattle.gc_prod.specs.Groups.{Grouped, row_of}
use Rattle.gc_prod.specs.Landings.{LandsAs}
use Rattle.gc_prod.specs.Places.{place_in}
use Rattle.gc_prod.specs.Preparing.{HasTargets, fan_at, targets_at, leg_bundle, leg_landing}
use Rattle.gc_prod.specs.Products.{Setting, Bundle, bundles}
use Rattle.gc_prod.proofs.BundleLaws.{hops_there}
use Rattle.gc_prod.proofs.FanLaws.{all_at}
use Rattle.gc_prod.proofs.PlaceLaws.{place_is, places_back, places_within}

abbrev no_hops : Grouped Hop
no_hops = record { items = []; starts = [] }

abbrev no_places : Grouped ℕ
no_places = record { items = []; starts = [] }

-- the targets of a fan are beside its hops
pub targets_are : (nodes : List ℕ) (fans : List Fan) → AllByRecursion (HasTargets nodes) fans → (i place : ℕ)
    → row_of (targets_at fans i) place ≡ map (λ h. place_in nodes h.to) (row_of (fan_at fans i) place)
targets_are nodes fans all i place = by (slice_get fans i) refl
  where
    by : (o : Option Fan) → slice_get fans i ≡ o → row_of (targets_at fans i) place ≡ map (λ h. place_in nodes h.to) (row_of (fan_at fans i) place)
    by (Some fan) e =
        ap (λ o. row_of (option_map_or (λ (g : Fan). g.targets) o no_places) place) e
        ∙ (all_at (HasTargets nodes) fans i fan all e place ∙ sym (ap (λ o. map (λ (h : Hop). place_in nodes h.to) (row_of (option_map_or (λ (g : Fan). g.hops) o no_hops) place)) e))
    by None e =
        ap (λ o. row_of (option_map_or (λ (g : Fan). g.targets) o no_places) place) e
        ∙ sym (ap (λ o. map (λ (h : Hop). place_in nodes h.to) (row_of (option_map_or (λ (g : Fan). g.hops) o no_hops) place)) e)

module _ (setting : Setting) (law : IsNetwork setting.network) (fans : List Fan) where
  abbrev nodes : List ℕ
  nodes = node_ids setting.network.graph.nodes

  module _ (up : Ascends nat_cmp nodes) (all : AllByRecursion (HasTargets nodes) fans) (legs : List Leg) (place state j : ℕ) (leg : Leg) (below : place < length nodes) where
    abbrev node : ℕ
    node = get_or nodes place 0

    module _ (led : map (leg_bundle fans (place_in nodes node)) legs ≡ bundles setting node state) (at : slice_get legs j ≡ Some leg) where
      bundle_there : slice_get (bundles setting node state) j ≡ Some (leg_bundle fans place leg)
      bundle_there =
          sym (ap (λ (bs : List Bundle). slice_get bs j) led)
          ∙ (slice_get-map (leg_bundle fans (place_in nodes node)) legs j
          ∙ (ap (option_map (leg_bundle fans (place_in nodes node))) at
          ∙ ap (λ n. let o : Option Bundle = Some (leg_bundle fans n leg) in o) (sym (place_is nodes place node up below refl))))

      there : AllByRecursion (λ h. IsThere setting.network h.to) (row_of (fan_at fans leg.fan) place)
      there = hops_there setting law node state j (leg_bundle fans place leg) bundle_there

      pub lands_as : (b : Bundle) → slice_get (bundles setting node state) j ≡ Some b → LandsAs nodes (leg_landing fans place leg) b
      lands_as b is =
          let same : leg_bundle fans place leg ≡ b = some_same (sym bundle_there ∙ is) in
          subst (LandsAs nodes (leg_landing fans place leg)) same (record {
            state = refl;
            places = ap (map (λ n. get_or nodes n 0)) (targets_are nodes fans all leg.fan place) ∙ places_back (λ (h : Hop). h.to) nodes (row_of (fan_at fans leg.fan) place) there;
          })
        where
          some_same : {a b : Bundle} → Some a ≡ Some b → a ≡ b
          some_same h = cc

      pub lands_within : AllByRecursion (λ p. p < length nodes) (leg_landing fans place leg).places
      lands_within =
          subst (λ (l : List ℕ). AllByRecursion (λ p. p < length nodes) l) (sym (targets_are nodes fans all leg.fan place))
          (places_within (λ (h : Hop). h.to) nodes (row_of (fan_at fans leg.fan) place) there)
