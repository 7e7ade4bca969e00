use Rattle.std.proofs.Common.{◌≡◌, ℕ, ◌≤◌, nat_lt, true, false, length, ◌-◌, take, drop, arith, List, sym, ap, ◌∙◌, subst}
use Rattle.std.specs.List.{slice_get}
use Rattle.std.specs.List.Sorted.{IsPartitionPoint, IsNonDecreasingBy}
use Rattle.std.proofs.lemmas.List.{take_all, length-drop}
use Rattle.gc_ppg.specs.KeyedPlaces.{at_key, run_at}
use Rattle.gc_ppg.specs.declared.places.PlaceAt.{PlaceAt}
use Rattle.gc_ppg.proofs.Runs.{from_start}
use Rattle.gc_ppg.proofs.places.Places.from.Goals as goal

answer : (key start : ℕ) (xs ys : List PlaceAt) → xs ≡ ys → start ≤ length ys → IsNonDecreasingBy (λ e. e.key) xs
    → IsPartitionPoint (λ e. nat_lt e.key key ≡ true) (λ e. nat_lt e.key key ≡ false) ys start
    → (i : ℕ) → run_at key (take (length xs - start) (drop start xs)) i ≡ slice_get (at_key key ys) i
answer key start xs ys same le up point i =
    let upward = subst (λ (zs : List PlaceAt). IsNonDecreasingBy (λ e. e.key) zs) same up in
    let whole : take (length xs - start) (drop start xs) ≡ drop start xs = take_all (length xs - start) (drop start xs) (omega (arith, length-drop start xs)) in
    ap (λ zs. run_at key zs i) whole ∙ (ap (λ zs. run_at key (drop start zs) i) same ∙ sym (from_start key ys start i le upward point))

pub returns : goal.returns
returns c = answer c.args.key c.start-start.result c.deref.result.now c.args.self.now (c.deref.ensures.value ∙ c.self.view_is) c.start-start.ensures.within (subst (λ (xs : List PlaceAt). IsNonDecreasingBy (λ e. e.key) xs) (sym c.deref.ensures.value) c.self.invariant) c.start-start.ensures.point
