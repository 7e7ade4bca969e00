-- What is so of every bundle: its hops lead to nodes, and it leads to a state below the width.
use Rattle.std.proofs.Common.{◌≡◌, ℕ, zero, suc, ◌<◌, ◌==◌, List, [], ◌∷◌, map, Some, subst}
use Rattle.std.specs.List.{AllByRecursion, Contains, slice_get}
use Rattle.gc_automata.specs.Moves.{Network, IsNetwork, IsThere}
use Rattle.gc_automata.specs.declared.transition.On.{On}
use Rattle.gc_automata.proofs.Lawful.{goes_lawful}
use Rattle.gc_prod.specs.declared.moves.Hop.{Hop}
use Rattle.gc_prod.specs.declared.preparing.Fan.{Fan}
use Rattle.gc_prod.specs.declared.preparing.Leg.{Leg}
use Rattle.gc_prod.specs.Keys.{at_key}
use Rattle.gc_prod.specs.Preparing.{leg_bundle}
use Rattle.gc_prod.specs.Products.{Setting, Bundle, bundle_of, bundles, leaving}
use Rattle.gc_prod.specs.SymbolHops.{hops}
use Rattle.gc_prod.proofs.GoesLaws.{hop_goes}
use Rattle.gc_prod.proofs.Members.{here, there, from_filter, from_map}

-- what stands at a place is among the items
pub at_among : {X : Type 0} (xs : List X) (i : ℕ) (x : X) → slice_get xs i ≡ Some x → Contains xs x
at_among [] i x h = cc
at_among (y ∷ xs) zero x h = let same : y ≡ x = cc in subst (λ z. Contains (y ∷ xs) z) same (here y xs)
at_among (y ∷ xs) (suc i) x h = there y xs x (at_among xs i x h)

pub all_from : {X : Type 0} (P : X → Type 0) (xs : List X) → ((x : X) → Contains xs x → P x) → AllByRecursion P xs
all_from P [] each = tt
all_from P (x ∷ xs) each = (each x (here x xs), all_from P xs (λ y k. each y (there x xs y k)))

pub all_map : {X Y : Type 0} (f : X → Y) (P : Y → Type 0) (xs : List X) → AllByRecursion (λ x. P (f x)) xs → AllByRecursion P (map f xs)
all_map f P [] all = tt
all_map f P (x ∷ xs) all = (all.0, all_map f P xs all.1)

pub bundles_below : (fans : List Fan) (legs : List Leg) (width place : ℕ) → AllByRecursion (λ leg. leg.to < width) legs → AllByRecursion (λ b. b.state < width) (map (leg_bundle fans place) legs)
bundles_below fans legs width place all = all_map (leg_bundle fans place) (λ (b : Bundle). b.state < width) legs all

-- hops lead from nodes
pub hops_start : (network : Network) → IsNetwork network → (on : On) → AllByRecursion (λ h. IsThere network h.from) (hops network on)
hops_start network law on =
    all_from (λ (h : Hop). IsThere network h.from) (hops network on)
    (λ h k. let w = hop_goes network on h k in subst (IsThere network) w.starts ((goes_lawful network law on).starts w.walk h.cost w.goes))

pub hops_there : (setting : Setting) → IsNetwork setting.network → (node state j : ℕ) (b : Bundle) → slice_get (bundles setting node state) j ≡ Some b → AllByRecursion (λ h. IsThere setting.network h.to) b.hops
hops_there setting law node state j b at =
    let image = from_map (bundle_of setting.network node) (leaving state setting.machine.transitions) b (at_among (bundles setting node state) j b at) in
    let t = image.origin in
    let all : AllByRecursion (λ (h : Hop). IsThere setting.network h.to) (at_key (λ h. h.from) node (hops setting.network t.on)) =
    all_from (λ (h : Hop). IsThere setting.network h.to) (at_key (λ h. h.from) node (hops setting.network t.on))
    (λ h k.
    let along = from_filter (λ (g : Hop). g.from == node) (hops setting.network t.on) h k in
    let w = hop_goes setting.network t.on h along.among in
    subst (IsThere setting.network) w.ends ((goes_lawful setting.network law t.on).ends w.walk h.cost w.goes)) in
    subst (λ (c : Bundle). AllByRecursion (λ h. IsThere setting.network h.to) c.hops) image.is all
