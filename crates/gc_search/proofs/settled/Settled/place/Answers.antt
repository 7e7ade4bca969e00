use Rattle.std.proofs.Common.{◌≡◌, List, ℕ, sym, ap, ◌∙◌, Some}
use Rattle.std.specs.List.{slice_get}
use Rattle.gc_search.specs.Arrivals.{arrivals_at}
use Rattle.gc_search.specs.Places.{places_from}
use Rattle.gc_search.proofs.PlaceLaws.{stands_as, stands_none, read_below, read_same, none_past, some_there}
use Rattle.gc_search.proofs.settled.Settled.place.Goals as goal

pub returns-in-None-clause-exact : goal.returns-in-None-clause-exact
returns-in-None-clause-exact c =
    let walks = c.args.self.now.walks in
    let q = c.args.at.now in
    let i = c.args.i in
    sym (stands_none 0 walks q i (ap (λ (l : List ℕ). slice_get l i) (sym c.places_at.ensures) ∙ none_past c.places_at.result.now i c.in-None.ensures.lookup.0))

pub returns-in-Some-clause-exact : goal.returns-in-Some-clause-exact
returns-in-Some-clause-exact c =
    let walks = c.args.self.now.walks in
    let q = c.args.at.now in
    let i = c.args.i in
    let n = c.in-Some.place.now in
    let here : slice_get (places_from 0 walks q) i ≡ Some n =
    ap (λ (l : List ℕ). slice_get l i) (sym c.places_at.ensures) ∙ some_there c.places_at.result.now i n c.in-Some.ensures.lookup.0 c.in-Some.ensures.lookup.1 in
    read_same walks (arrivals_at walks q) i n (stands_as 0 walks q i n here)

pub returns-in-Some-clause-within : goal.returns-in-Some-clause-within
returns-in-Some-clause-within c =
    let walks = c.args.self.now.walks in
    let q = c.args.at.now in
    let i = c.args.i in
    let n = c.in-Some.place.now in
    let here : slice_get (places_from 0 walks q) i ≡ Some n =
    ap (λ (l : List ℕ). slice_get l i) (sym c.places_at.ensures) ∙ some_there c.places_at.result.now i n c.in-Some.ensures.lookup.0 c.in-Some.ensures.lookup.1 in
    read_below walks (arrivals_at walks q) i n (stands_as 0 walks q i n here)
