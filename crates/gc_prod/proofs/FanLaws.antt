-- Fans of symbols, and the legs that use them.
use Rattle.std.proofs.Common.{◌≡◌, ℕ, zero, suc, ◌+◌, ◌<◌, ◌≤◌, true, false, cond, ◌==◌, List, [], ◌∷◌, ◌++◌, map, length, drop, get_or, position, Option, Some, None, refl, sym, ap, ap₂, subst, ◌∙◌, append_assoc, arith, length-append}
use Rattle.std.specs.List.{AllByRecursion, slice_get}
use Rattle.std.specs.Option.{option_map_or}
use Rattle.std.specs.Cmp.Lexicographic.{same_text}
use Rattle.std.proofs.lemmas.List.{map-append, append-nil}
use Rattle.std.proofs.lemmas.List.Elements.{filter-append}
use Rattle.std.proofs.lemmas.List.Quantifiers.{position-Some}
use Rattle.std.proofs.lemmas.Option.{slice_get-get_or}
use Rattle.gc_base.proofs.SetLaws.{AllByRecursion-append}
use Rattle.gc_automata.specs.Moves.{Network}
use Rattle.gc_automata.specs.declared.transition.On.{On}
use Rattle.gc_automata.specs.declared.transition.On.TheVariants.{Empty, Label, Back, Any, AnyBack, Test, View}
use Rattle.gc_automata.specs.declared.transition.Transition.{Transition}
use Rattle.gc_prod.specs.declared.preparing.Fan.{Fan}
use Rattle.gc_prod.specs.declared.preparing.Leg.{Leg}
use Rattle.gc_spec.specs.PropertyGraph.{node_ids}
use Rattle.gc_prod.specs.Groups.{Grouped, row_of}
use Rattle.gc_prod.specs.Keys.{at_key}
use Rattle.gc_prod.specs.Places.{place_in}
use Rattle.gc_prod.specs.declared.moves.Hop.{Hop}
use Rattle.gc_prod.specs.Preparing.{same_symbol, symbol_at, is_fan_of, AreHopsOf, IsFan, HasFan, leg_bundle, leg_bundles}
use Rattle.gc_prod.specs.Products.{Bundle, bundle_of, leaving}
use Rattle.gc_prod.proofs.HopLists.{left_at}

pub same_exact : (a b : On) → same_symbol a b ≡ true → a ≡ b
same_exact Empty Empty h = refl
same_exact (Label l) (Label k) h = ap Label (same_text l k (sym h))
same_exact (Back l) (Back k) h = ap Back (same_text l k (sym h))
same_exact Any Any h = refl
same_exact AnyBack AnyBack h = refl
same_exact (Test l) (Test k) h = ap Test (same_text l k (sym h))
same_exact (View v) (View w) h = ap View (same_text v w (sym h))
same_exact a b h = cc

-- what holds of each item holds of the one at a place
pub all_at : {X : Type 0} (P : X → Type 0) (xs : List X) (i : ℕ) (x : X) → AllByRecursion P xs → slice_get xs i ≡ Some x → P x
all_at P [] i x all h = cc
all_at P (y ∷ xs) zero x all h = let same : y ≡ x = cc in subst P same all.0
all_at P (y ∷ xs) (suc i) x all h = all_at P xs i x all.1 h

pub slice_get-left : {X : Type 0} (xs ys : List X) (i : ℕ) → i < length xs → slice_get (xs ++ ys) i ≡ slice_get xs i
slice_get-left [] ys i h = absurd (omega arith)
slice_get-left (x ∷ xs) ys zero h = refl
slice_get-left (x ∷ xs) ys (suc i) h = slice_get-left xs ys i (omega arith)

slice_get-last : {X : Type 0} (xs : List X) (x : X) → slice_get (xs ++ x ∷ []) (length xs) ≡ Some x
slice_get-last [] x = refl
slice_get-last (y ∷ xs) x = slice_get-last xs x

pub nothing_at : {X : Type 0} (xs : List X) (i : ℕ) → slice_get xs i ≡ None → drop i xs ≡ []
nothing_at [] zero h = refl
nothing_at [] (suc i) h = refl
nothing_at (x ∷ xs) zero h = cc
nothing_at (x ∷ xs) (suc i) h = nothing_at xs i h

told : (on : On) (o : Option On) → option_map_or (same_symbol on) o false ≡ true → o ≡ Some on
told on None h = cc
told on (Some other) h = ap Some (sym (same_exact on other h))

abbrev none : Grouped Hop
none = record { items = []; starts = [] }

module _ (network : Network) (transitions : List Transition) (on : On) where
  -- a fan that is found has the hops
  pub known_is : (fans : List Fan) (k : ℕ) → position (is_fan_of transitions on) fans ≡ Some k → AllByRecursion (IsFan network transitions) fans
      → HasFan network transitions on fans fans k
  known_is [] k found all = cc
  known_is (f ∷ fans) k found all =
      let at = position-Some (is_fan_of transitions on) (f ∷ fans) k f found in
      let here = get_or (f ∷ fans) k f in
      let is : slice_get (f ∷ fans) k ≡ Some here = slice_get-get_or (f ∷ fans) k f at.0 in
      let right : AreHopsOf network on here.hops = all_at (IsFan network transitions) (f ∷ fans) k here all is on (told on (symbol_at transitions here.symbol) at.1) in
      record {
        within = at.0;
        right = λ node. ap (λ o. row_of (option_map_or (λ (g : Fan). g.hops) o none) (place_in (node_ids network.graph.nodes) node)) is ∙ right node;
        grows = omega arith;
        kept = λ j below. refl;
        fans = all;
      }

  -- a fan that is put behind the others has them
  pub pushed_is : (fans : List Fan) (fan : Fan) → symbol_at transitions fan.symbol ≡ Some on → AreHopsOf network on fan.hops → AllByRecursion (IsFan network transitions) fans
      → HasFan network transitions on fans (fans ++ fan ∷ []) (length fans)
  pushed_is fans fan symbol right all = record {
    within = omega (arith, length-append fans (fan ∷ []));
    right = λ node. ap (λ o. row_of (option_map_or (λ (g : Fan). g.hops) o none) (place_in (node_ids network.graph.nodes) node)) (slice_get-last fans fan) ∙ right node;
    grows = omega (arith, length-append fans (fan ∷ []));
    kept = λ j below. slice_get-left fans (fan ∷ []) j below;
    fans = AllByRecursion-append (IsFan network transitions) fans (fan ∷ []) all
        ((λ other is. let same : on ≡ other = cc in subst (λ o. AreHopsOf network o fan.hops) same right), tt);
  }

-- legs whose fans stay
module _ (before after : List Fan) (place : ℕ) (kept : (j : ℕ) → j < length before → slice_get after j ≡ slice_get before j) where
  leg_stays : (leg : Leg) → leg.fan < length before → leg_bundle after place leg ≡ leg_bundle before place leg
  leg_stays leg within = ap (λ o. let b : Bundle = record { state = leg.to; hops = row_of (option_map_or (λ (g : Fan). g.hops) o none) place } in b) (kept leg.fan within)

  legs_stay : (state : ℕ) (legs : List Leg) → AllByRecursion (λ leg. leg.fan < length before) legs → leg_bundles after legs place state ≡ leg_bundles before legs place state
  legs_stay state [] all = refl
  legs_stay state (leg ∷ legs) all =
      elim (leg.from == state) as (λ b. map (leg_bundle after place) (cond b (leg ∷ at_key (λ l. l.from) state legs) (at_key (λ l. l.from) state legs))
      ≡ map (leg_bundle before place) (cond b (leg ∷ at_key (λ l. l.from) state legs) (at_key (λ l. l.from) state legs))) [
        | true ↦ ap₂ (λ x xs. x ∷ xs) (leg_stays leg all.0) (legs_stay state legs all.1)
        | false ↦ legs_stay state legs all.1
      ]

-- one more leg, for one more transition
module _ (network : Network) (transitions : List Transition) where
  abbrev place_of : ℕ → ℕ
  place_of node = place_in (node_ids network.graph.nodes) node

  leg_is : (node state : ℕ) (fans : List Fan) (t : Transition) (ts : List Transition) (leg : Leg) → leg.from ≡ t.from → leg_bundle fans (place_of node) leg ≡ bundle_of network node t
      → leg_bundles fans (leg ∷ []) (place_of node) state ++ map (bundle_of network node) (leaving state ts) ≡ map (bundle_of network node) (leaving state (t ∷ ts))
  leg_is node state fans t ts leg same is =
      ap (λ n. map (leg_bundle fans (place_of node)) (cond (n == state) (leg ∷ []) []) ++ map (bundle_of network node) (leaving state ts)) same
      ∙ elim (t.from == state) as (λ b. map (leg_bundle fans (place_of node)) (cond b (leg ∷ []) []) ++ map (bundle_of network node) (leaving state ts)
      ≡ map (bundle_of network node) (cond b (t ∷ leaving state ts) (leaving state ts))) [
        | true ↦ ap (λ x. x ∷ map (bundle_of network node) (leaving state ts)) is
        | false ↦ refl
      ]

  both : (place state : ℕ) (fans : List Fan) (legs more : List Leg) → leg_bundles fans (legs ++ more) place state ≡ leg_bundles fans legs place state ++ leg_bundles fans more place state
  both place state fans legs more = ap (map (leg_bundle fans place)) (filter-append (λ leg. leg.from == state) legs more) ∙ map-append (leg_bundle fans place) _ _

  pub leg_more : (i k : ℕ) (t : Transition) (before after : List Fan) (legs : List Leg) (whole : ℕ → ℕ → List Bundle) → slice_get transitions i ≡ Some t
      → HasFan network transitions t.on before after k → AllByRecursion (λ leg. leg.fan < length before) legs
      → ((node state : ℕ) → leg_bundles before legs (place_of node) state ++ map (bundle_of network node) (leaving state (drop i transitions)) ≡ whole node state)
      → (node state : ℕ) → leg_bundles after (legs ++ record { from = t.from; to = t.to; fan = k } ∷ []) (place_of node) state ++ map (bundle_of network node) (leaving state (drop (i + 1) transitions)) ≡ whole node state
  leg_more i k t before after legs whole at fan within all node state =
      let leg : Leg = record { from = t.from; to = t.to; fan = k } in
      let rest = map (bundle_of network node) (leaving state (drop (i + 1) transitions)) in
      let place = place_of node in
      let is : leg_bundle after place leg ≡ bundle_of network node t = ap (λ hs. let b : Bundle = record { state = t.to; hops = hs } in b) (fan.right node) in
      ap (λ bs. bs ++ rest) (both place state after legs (leg ∷ []))
      ∙ (append_assoc (leg_bundles after legs place state) (leg_bundles after (leg ∷ []) place state) rest
      ∙ (ap₂ (λ a b. a ++ b) (legs_stay before after place fan.kept state legs within) (leg_is node state after t (drop (i + 1) transitions) leg refl is)
      ∙ (ap (λ ts. leg_bundles before legs place state ++ map (bundle_of network node) (leaving state ts)) (sym (left_at transitions i t at)) ∙ all node state)))

  -- past the last transition no leg is missing
  pub none_left : (i node state : ℕ) (so_far whole : List Bundle) → slice_get transitions i ≡ None
      → so_far ++ map (bundle_of network node) (leaving state (drop i transitions)) ≡ whole → so_far ≡ whole
  none_left i node state so_far whole past all =
      sym (append-nil so_far) ∙ (ap (λ ts. so_far ++ map (bundle_of network node) (leaving state ts)) (sym (nothing_at transitions i past)) ∙ all)

  -- the legs are within the fans that there are then
  within_more : (n m : ℕ) (legs : List Leg) → n ≤ m → AllByRecursion (λ leg. leg.fan < n) legs → AllByRecursion (λ leg. leg.fan < m) legs
  within_more n m [] le all = tt
  within_more n m (leg ∷ legs) le all = (omega (arith, all.0), within_more n m legs le all.1)

  pub legs_within : (k : ℕ) (t : Transition) (before after : List Fan) (legs : List Leg) → HasFan network transitions t.on before after k → AllByRecursion (λ leg. leg.fan < length before) legs
      → AllByRecursion (λ leg. leg.fan < length after) (legs ++ record { from = t.from; to = t.to; fan = k } ∷ [])
  legs_within k t before after legs fan all =
      AllByRecursion-append (λ leg. leg.fan < length after) legs _ (within_more (length before) (length after) legs fan.grows all) (fan.within, tt)
