use Rattle.std.proofs.Common.{◌≡◌, ◌<◌, ℕ, true, [], ◌∷◌, length, nat_lt, Some, sym, subst, ap, arith}
use Rattle.std.specs.List.{slice_get}
use Rattle.std.proofs.lemmas.Bool.Decides.{nat_tests}
use Rattle.gc_prod.specs.Leading.{target_of}
use Rattle.gc_search.specs.Arrivals.{FoundWalk, arrivals_at, extended}
use Rattle.gc_search.specs.Links.{walk_of, IsTold}
use Rattle.gc_search.specs.Places.{Listing, tree_of}
use Rattle.gc_search.specs.Waiting.{IsGrown}
use Rattle.gc_search.proofs.BundleLaws.{grown_one}
use Rattle.gc_search.proofs.settling.add_extension.Goals as goal

less : (m n k : ℕ) → m ≡ n → m < k → nat_lt n k ≡ true
less m n k e l = grind (arith, nat_tests)

pub extended-requires-clause-within : goal.extended-requires-clause-within
extended-requires-clause-within c = omega (arith, c.requires.within, ap (λ (s : Listing). length s.walks) c.settled.view_is)

pub returns-in_ok-push : goal.returns-in_ok-push
returns-in_ok-push c = λ a at.
    let tree = tree_of c.args.settled.now in
    let by = c.args.by in
    let k = c.args.k in
    let before = c.args.more.now.items in
    let l = c.in_ok-extended.field-0 in
    let is = subst (λ (s : Listing). (v : FoundWalk) → slice_get s.walks c.args.place ≡ Some v → walk_of s.setting s.walks l ≡ extended s.setting v by) c.settled.view_is c.in_ok-extended.ensures.exact in
    let told = subst (λ (s : Listing). IsTold s.setting s.walks l) c.settled.view_is c.in_ok-extended.ensures.told in
    subst (IsGrown tree k a (by ∷ []) before) (sym c.in_ok-push.ensures.items)
    (grown_one tree k a by before l (less c.count_at.result (length (arrivals_at tree.walks (target_of by))) k c.count_at.ensures.exact c.if-count_at-k.true) (is a at) told c.extended.ensures.small)
