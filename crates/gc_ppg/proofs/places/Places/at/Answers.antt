use Rattle.std.proofs.Common.{◌≡◌, ℕ, ◌≤◌, ◌==◌, nat_lt, true, false, cond, length, ◌-◌, take, drop, arith, List, Option, Some, None, refl, sym, ap, ◌∙◌, subst}
use Rattle.std.specs.List.{slice_get}
use Rattle.std.specs.List.Sorted.{IsPartitionPoint, IsNonDecreasingBy}
use Rattle.std.specs.Option.{option_map, option_and_then}
use Rattle.std.proofs.lemmas.List.{take_all, length-drop}
use Rattle.gc_ppg.specs.KeyedPlaces.{at_key}
use Rattle.gc_ppg.specs.declared.places.PlaceAt.{PlaceAt}
use Rattle.gc_ppg.proofs.Runs.{from_start, of_key}
use Rattle.gc_ppg.proofs.places.Places.at.Goals as goal

placed : (key : ℕ) (o : Option PlaceAt) → option_and_then (λ e. cond (e.key == key) (Some e.place) None) o ≡ option_map (λ e. e.place) (option_and_then (of_key key) o)
placed key None = refl
placed key (Some e) = elim (e.key == key) as (λ b. cond b (Some e.place) None ≡ option_map (λ f. f.place) (cond b (Some e) None)) [ true ↦ refl | false ↦ refl ]

answer : (key start i : ℕ) (xs ys : List PlaceAt) (r : Option ℕ) → xs ≡ ys → start ≤ length ys → IsNonDecreasingBy (λ e. e.key) xs
    → IsPartitionPoint (λ e. nat_lt e.key key ≡ true) (λ e. nat_lt e.key key ≡ false) ys start
    → r ≡ option_and_then (λ e. cond (e.key == key) (Some e.place) None) (slice_get (take (length xs - start) (drop start xs)) i)
    → r ≡ option_map (λ e. e.place) (slice_get (at_key key ys) i)
answer key start i xs ys r same le up point is =
    let upward = subst (λ (zs : List PlaceAt). IsNonDecreasingBy (λ e. e.key) zs) same up in
    let whole : take (length xs - start) (drop start xs) ≡ drop start xs = take_all (length xs - start) (drop start xs) (omega (arith, length-drop start xs)) in
    is ∙ (ap (λ zs. option_and_then (λ e. cond (e.key == key) (Some e.place) None) (slice_get zs i)) whole ∙ (ap (λ zs. option_and_then (λ e. cond (e.key == key) (Some e.place) None) (slice_get (drop start zs) i)) same
    ∙ (placed key (slice_get (drop start ys) i) ∙ ap (option_map (λ e. e.place)) (sym (from_start key ys start i le upward point)))))

pub returns : goal.returns
returns c = answer c.args.key c.start-start.result c.args.i c.deref.result.now c.args.self.now c.place_at.result (c.deref.ensures.value ∙ c.self.view_is) c.start-start.ensures.within (subst (λ (xs : List PlaceAt). IsNonDecreasingBy (λ e. e.key) xs) (sym c.deref.ensures.value) c.self.invariant) c.start-start.ensures.point c.place_at.ensures
