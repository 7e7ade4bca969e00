-- What a product keeps, so that the moves of a pair are found at once.
use Rattle.std.specs.Prelude.{◌≡◌, ℕ, ◌<◌, ◌≤◌, Bool, true, false, List, [], map, length, slice_get, Option, Some, nat_eq}
use Rattle.std.specs.List.{AllByRecursion}
use Rattle.std.specs.Option.{option_map, option_map_or}
use Rattle.std.specs.Cmp.Lexicographic.{pointwise}
use Rattle.gc_spec.specs.PropertyGraph.{IsGraph, node_ids}
use Rattle.gc_automata.specs.Moves.{Network}
use Rattle.gc_automata.specs.declared.transition.Transition.{Transition}
use Rattle.gc_automata.specs.declared.transition.On.{On}
use Rattle.gc_automata.specs.declared.transition.On.TheVariants.{Empty, Label, Back, Any, AnyBack, Test, View}
use Rattle.gc_prod.specs.declared.moves.Hop.{Hop}
use Rattle.gc_prod.specs.declared.preparing.Fan.{Fan}
use Rattle.gc_prod.specs.declared.preparing.Leg.{Leg}
use Rattle.gc_prod.specs.Groups.{Grouped, row_of}
use Rattle.gc_prod.specs.Keys.{at_key}
use Rattle.gc_prod.specs.Landings.{Landing}
use Rattle.gc_prod.specs.Places.{place_in}
use Rattle.gc_prod.specs.Products.{Setting, Bundle, bundles}
use Rattle.gc_prod.specs.Segments.{AreSegments}
use Rattle.gc_prod.specs.SymbolHops.{hops}

-- whether two symbols are the same
abbrev pub same_symbol : On → On → Bool
same_symbol Empty Empty = true
same_symbol (Label l) (Label k) = pointwise nat_eq l k
same_symbol (Back l) (Back k) = pointwise nat_eq l k
same_symbol Any Any = true
same_symbol AnyBack AnyBack = true
same_symbol (Test l) (Test k) = pointwise nat_eq l k
same_symbol (View v) (View w) = pointwise nat_eq v w
same_symbol a b = false

-- the symbol of the transition of a number
abbrev pub symbol_at : List Transition → ℕ → Option On
symbol_at transitions i = option_map (λ t. t.on) (slice_get transitions i)

-- whether a fan is that of a symbol
abbrev pub is_fan_of : List Transition → On → Fan → Bool
is_fan_of transitions on fan = option_map_or (same_symbol on) (symbol_at transitions fan.symbol) false

-- these are the hops along a symbol, at the place of each node those from it, in their order
abbrev pub AreHopsOf : Network → On → Grouped Hop → Type 0
AreHopsOf network on kept = (node : ℕ) → row_of kept (place_in (node_ids network.graph.nodes) node) ≡ at_key (λ h. h.from) node (hops network on)

-- a fan has the hops along the symbol of its transition
abbrev pub IsFan : Network → List Transition → Fan → Type 0
IsFan network transitions fan = (on : On) → symbol_at transitions fan.symbol ≡ Some on → AreHopsOf network on fan.hops

-- the hops of the fan of a number
abbrev pub fan_at : List Fan → ℕ → Grouped Hop
fan_at fans i = option_map_or (λ fan. fan.hops) (slice_get fans i) (record { items = []; starts = [] })

-- a fan tells the places of the nodes to which its hops lead
abbrev pub HasTargets : List ℕ → Fan → Type 0
HasTargets nodes fan = (place : ℕ) → row_of fan.targets place ≡ map (λ h. place_in nodes h.to) (row_of fan.hops place)

abbrev pub targets_at : List Fan → ℕ → Grouped ℕ
targets_at fans i = option_map_or (λ fan. fan.targets) (slice_get fans i) (record { items = []; starts = [] })

-- there is a fan of the symbol at this number, and the fans before are as they were
pub record HasFan (network : Network) (transitions : List Transition) (on : On) (before after : List Fan) (i : ℕ) : Type 0 where
  pub within : i < length after
  pub right : AreHopsOf network on (fan_at after i)
  pub grows : length before ≤ length after
  pub kept : (j : ℕ) → j < length before → slice_get after j ≡ slice_get before j
  pub fans : AllByRecursion (IsFan network transitions) after

-- the hops from the node at a place along a leg
abbrev pub leg_bundle : List Fan → ℕ → Leg → Bundle
leg_bundle fans place leg = record { state = leg.to; hops = row_of (fan_at fans leg.fan) place }

-- the hops from the node at a place along the legs that leave a state
abbrev pub leg_bundles : List Fan → List Leg → ℕ → ℕ → List Bundle
leg_bundles fans legs place state = map (leg_bundle fans place) (at_key (λ leg. leg.from) state legs)

-- where the hops lead from the node at a place along a leg
abbrev pub leg_landing : List Fan → ℕ → Leg → Landing
leg_landing fans place leg = record { state = leg.to; places = row_of (targets_at fans leg.fan) place }

-- what a product keeps is right
pub record IsPrepared (setting : Setting) (nodes : List ℕ) (legs : Grouped Leg) (fans : List Fan) (width : ℕ) : Type 0 where
  pub graph : IsGraph setting.network.graph
  pub segments : AreSegments setting.network.graph setting.network.segments
  pub ids : nodes ≡ node_ids setting.network.graph.nodes
  pub led : (node state : ℕ) → map (leg_bundle fans (place_in nodes node)) (row_of legs state) ≡ bundles setting node state
  pub targets : AllByRecursion (HasTargets nodes) fans
  pub states : setting.machine.states ≤ width
  pub some : 0 < width
  pub above : (state : ℕ) → AllByRecursion (λ leg. leg.to < width) (row_of legs state)
