use Rattle.std.proofs.Common.{◌≡◌, ◌-◌, ◌++◌, ◌∷◌, [], ℕ, List, Bool, true, false, length, get_or, refl, sym, ap, subst, arith, ◌∙◌, Some, length-append}
use Rattle.std.specs.List.{slice_get}
use Rattle.gc_search.specs.Arrivals.{FoundWalk, arrivals_at, edges_along, Told}
use Rattle.gc_search.specs.Links.{Link, walk_of}
use Rattle.gc_search.specs.Places.{places_from, Listing}
use Rattle.gc_search.specs.Tails.{edges_told}
use Rattle.gc_search.proofs.LoopLaws.{edges_there}
use Rattle.gc_search.proofs.PlaceLaws.{places_count, read_place, read_below, read_at}
use Rattle.gc_search.proofs.settled.Settled.is_last.Goals as goal

last_got : {X : Type 0} (xs : List X) (y : X) → slice_get (xs ++ y ∷ []) (length xs) ≡ Some y
last_got [] y = refl
last_got (x ∷ xs) y = last_got xs y

-- the last of some is what is read at the last place
last_is : (found : List FoundWalk) (n : ℕ) (x a : FoundWalk) → length found ≡ n → slice_get found (n - 1) ≡ Some x → (edges_along x.steps ≡ edges_along a.steps → ⊥)
    → (xs : List FoundWalk) (y : FoundWalk) → found ≡ xs ++ y ∷ [] → edges_along y.steps ≡ edges_along a.steps → ⊥
last_is found n x a count here other xs y is same =
    let place : n - 1 ≡ length xs = omega (arith, count, ap length is, length-append xs (y ∷ [])) in
    let one : Some y ≡ Some x = sym (last_got xs y) ∙ (sym (ap (λ l. slice_get l (length xs)) is) ∙ (sym (ap (slice_get found) place) ∙ here)) in
    let e : y ≡ x = cc in
    other (subst (λ (v : FoundWalk). edges_along v.steps ≡ edges_along a.steps) e same)

pub returns-then-places-eq0 : goal.returns-then-places-eq0
returns-then-places-eq0 c = λ xs y is same.
    let walks = c.args.self.now.walks in
    let next = c.args.next.now in
    let are : c.places_at-places.result.now ≡ places_from 0 walks next.at = c.places_at-places.ensures ∙ ap (λ (a : Link). places_from 0 walks a.at) c.next.view_is in
    omega (arith, c.if-places-eq0.true, ap length are, places_count 0 walks next.at, ap length is, length-append xs (y ∷ []))

pub at-last-requires : goal.at-last-requires
at-last-requires c =
    let walks = c.args.self.now.walks in
    let q = c.args.next.now.at in
    let places = c.places_at-places.result.now in
    let i = length places - 1 in
    let are : places ≡ places_from 0 walks q = c.places_at-places.ensures ∙ ap (λ (a : Link). places_from 0 walks a.at) c.next.view_is in
    let below = read_below walks (arrivals_at walks q) i (get_or places i 0) (read_place walks q places i 0 are (omega (arith, c.if-places-eq0.false))) in
    omega (arith, below, ap (λ (s : Listing). length s.walks) c.self.view_is)

pub returns : goal.returns
returns c =
    let setting = c.args.self.now.setting in
    let walks = c.args.self.now.walks in
    let next = c.args.next.now in
    let found = arrivals_at walks next.at in
    let places = c.places_at-places.result.now in
    let i = length places - 1 in
    let n = get_or places i 0 in
    let l = c.at-last.result.now in
    let x = walk_of setting walks l in
    let a = walk_of setting walks next in
    let are : places ≡ places_from 0 walks next.at = c.places_at-places.ensures ∙ ap (λ (v : Link). places_from 0 walks v.at) c.next.view_is in
    let s = read_place walks next.at places i 0 are (omega (arith, c.if-places-eq0.false)) in
    let there = subst (λ (v : Listing). slice_get v.walks n ≡ Some (walk_of v.setting v.walks l)) c.self.view_is c.at-last.ensures.exact in
    let here : slice_get found i ≡ Some x = read_at walks found i n s x there in
    let count : length found ≡ length places = omega (arith, ap length are, places_count 0 walks next.at) in
    let told = subst (λ (v : Listing). Told c.have_same_edges.result (edges_told v.setting v.walks l ≡ edges_told v.setting v.walks next) (edges_told v.setting v.walks l ≡ edges_told v.setting v.walks next → ⊥))
    c.self.view_is c.have_same_edges.ensures in
    by c.have_same_edges.result told (λ same. edges_there found i x a here same) (λ other. last_is found (length places) x a count here other)
  where
    by : {A B C D : Type 0} (b : Bool) → Told b A B → (A → C) → (B → D) → Told b C D
    by true h f g = f h
    by false h f g = g h
