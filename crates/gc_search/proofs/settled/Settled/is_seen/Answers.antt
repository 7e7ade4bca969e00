use Rattle.std.proofs.Common.{◌≡◌, length, get_or, ap, subst, arith, ◌∙◌, Some}
use Rattle.std.specs.List.{slice_get}
use Rattle.gc_search.specs.Arrivals.{arrivals_at}
use Rattle.gc_search.specs.Links.{Link, walk_of}
use Rattle.gc_search.specs.Places.{places_from, Listing}
use Rattle.gc_search.specs.Tails.{edges_told}
use Rattle.gc_search.proofs.LoopLaws.{edges_there, edges_later, edges_none}
use Rattle.gc_search.proofs.PlaceLaws.{places_count, read_place, read_below, read_at}
use Rattle.gc_search.proofs.settled.Settled.is_seen.Goals as goal

pub at-requires : goal.at-requires
at-requires c =
    let walks = c.args.self.now.walks in
    let q = c.args.next.now.at in
    let i = c.loop-i.i in
    let places = c.places_at-places.result.now in
    let are : places ≡ places_from 0 walks q = c.places_at-places.ensures ∙ ap (λ (a : Link). places_from 0 walks a.at) c.next.view_is in
    let below = read_below walks (arrivals_at walks q) i (get_or places i 0) (read_place walks q places i 0 are c.loop-i-test.true) in
    omega (arith, below, ap (λ (s : Listing). length s.walks) c.self.view_is)

pub returns-then-have_same_edges : goal.returns-then-have_same_edges
returns-then-have_same_edges c =
    let setting = c.args.self.now.setting in
    let walks = c.args.self.now.walks in
    let next = c.args.next.now in
    let i = c.loop-i.i in
    let places = c.places_at-places.result.now in
    let n = get_or places i 0 in
    let l = c.at.result.now in
    let are : places ≡ places_from 0 walks next.at = c.places_at-places.ensures ∙ ap (λ (a : Link). places_from 0 walks a.at) c.next.view_is in
    let s = read_place walks next.at places i 0 are c.loop-i-test.true in
    let there = subst (λ (v : Listing). slice_get v.walks n ≡ Some (walk_of v.setting v.walks l)) c.self.view_is c.at.ensures.exact in
    let here = read_at walks (arrivals_at walks next.at) i n s (walk_of setting walks l) there in
    edges_there (arrivals_at walks next.at) i (walk_of setting walks l) (walk_of setting walks next) here
    (subst (λ (v : Listing). edges_told v.setting v.walks l ≡ edges_told v.setting v.walks next) c.self.view_is c.if-have_same_edges.ensures)

pub loop-i-preserved : goal.loop-i-preserved
loop-i-preserved c = λ seen.
    let setting = c.args.self.now.setting in
    let walks = c.args.self.now.walks in
    let next = c.args.next.now in
    let i = c.loop-i.i in
    let places = c.places_at-places.result.now in
    let n = get_or places i 0 in
    let l = c.at.result.now in
    let are : places ≡ places_from 0 walks next.at = c.places_at-places.ensures ∙ ap (λ (a : Link). places_from 0 walks a.at) c.next.view_is in
    let s = read_place walks next.at places i 0 are c.loop-i-test.true in
    let there = subst (λ (v : Listing). slice_get v.walks n ≡ Some (walk_of v.setting v.walks l)) c.self.view_is c.at.ensures.exact in
    let here = read_at walks (arrivals_at walks next.at) i n s (walk_of setting walks l) there in
    edges_later (arrivals_at walks next.at) i (walk_of setting walks l) (walk_of setting walks next) here
    (subst (λ (v : Listing). edges_told v.setting v.walks l ≡ edges_told v.setting v.walks next → ⊥) c.self.view_is c.if-have_same_edges.ensures) (c.loop-i.invariant seen)

pub returns : goal.returns
returns c = λ seen.
    let setting = c.args.self.now.setting in
    let walks = c.args.self.now.walks in
    let next = c.args.next.now in
    let are : c.places_at-places.result.now ≡ places_from 0 walks next.at = c.places_at-places.ensures ∙ ap (λ (a : Link). places_from 0 walks a.at) c.next.view_is in
    edges_none (arrivals_at walks next.at) c.loop-i.i (walk_of setting walks next) (omega (arith, ap length are, places_count 0 walks next.at, c.loop-i-test.false)) (c.loop-i.invariant seen)
