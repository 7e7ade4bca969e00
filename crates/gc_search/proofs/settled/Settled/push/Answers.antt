use Rattle.std.proofs.Common.{◌≡◌, ◌<◌, ◌++◌, ◌∷◌, [], List, ℕ, length, get_or, set, None, Some, sym, ap, subst, arith, ◌∙◌}
use Rattle.std.proofs.lemmas.List.{get_or_read}
use Rattle.gc_search.specs.Arrivals.{FoundWalk}
use Rattle.gc_search.specs.Links.{Link, Walks, walk_of}
use Rattle.gc_search.specs.Places.{number_of, Listing, IsListed, IsNumbered}
use Rattle.gc_search.proofs.NumberLaws.{has_number}
use Rattle.gc_search.proofs.PlaceLaws.{listed_more, set_same}
use Rattle.gc_search.proofs.settled.Settled.push.Goals as goal

pub unreachable-requires : goal.unreachable-requires
unreachable-requires c =
    let nodes = c.self.inside.nodes.now in
    let width = c.self.inside.width in
    let next = c.args.next.now in
    let is : IsNumbered nodes width next.at = subst (λ (s : Listing). IsNumbered s.nodes s.width next.at) (sym c.self.view_is) c.requires.number in
    let none : None ≡ number_of nodes width next.at = sym c.in_default.is ∙ (c.number_of.ensures.exact ∙ ap (λ (a : Link). number_of nodes width a.at) c.next.view_is) in
    has_number nodes width next.at is (sym none)

-- the walk is not settled
pub invariant_of-self : goal.invariant_of-self
invariant_of-self c =
    let nodes = c.self.inside.nodes.now in
    let width = c.self.inside.width in
    subst (λ (t : Walks). IsListed nodes width t.walks c.self.inside.places.items) (sym c.in_err-push.ensures.err) c.self.invariant

pub invariant_of-self-in-Ok : goal.invariant_of-self-in-Ok
invariant_of-self-in-Ok c =
    let nodes = c.self.inside.nodes.now in
    let width = c.self.inside.width in
    let walks = c.self.inside.tree.walks in
    let places = c.self.inside.places.items in
    let n = c.in-Some.number in
    let link : Link = record { at = c.next.inside.at; cost = c.next.inside.cost; edges = c.next.inside.edges; before = c.next.inside.before; by = c.next.inside.by } in
    let next = walk_of c.self.inside.tree.setting walks link in
    let old = c.index_mut.result.now in
    let number : number_of nodes width next.at ≡ Some n = sym c.in-Some.ensures.exact in
    let within : n < length places = omega (arith, c.in-Some.ensures.within, c.self.invariant.size) in
    let are : c.push-2.new.self ≡ get_or places n [] ++ length walks ∷ [] =
    c.in-Ok.ensures.ok
    ∙ (ap (λ (l : List ℕ). l ++ c.count-place.result ∷ []) (get_or_read places n old within c.index_mut.ensures.value []) ∙ ap (λ m. get_or places n [] ++ m ∷ []) c.count-place.ensures.exact) in
    subst (λ (t : Walks). IsListed nodes width t.walks (set places n c.push-2.new.self)) (sym c.in_ok-push.ensures.ok)
    (subst (λ (l : List ℕ). IsListed nodes width (walks ++ next ∷ []) (set places n l)) (sym are) (listed_more nodes width walks places c.self.invariant next n number within))

-- its place could not be kept, so it is taken away
pub invariant_of-self-in-Err : goal.invariant_of-self-in-Err
invariant_of-self-in-Err c =
    let nodes = c.self.inside.nodes.now in
    let width = c.self.inside.width in
    let walks = c.self.inside.tree.walks in
    let places = c.self.inside.places.items in
    let n = c.in-Some.number in
    let old = c.index_mut.result.now in
    let link : Link = record { at = c.next.inside.at; cost = c.next.inside.cost; edges = c.next.inside.edges; before = c.next.inside.before; by = c.next.inside.by } in
    let next = walk_of c.self.inside.tree.setting walks link in
    let within : n < length places = omega (arith, c.in-Some.ensures.within, c.self.invariant.size) in
    let left : c.pop.new.self.walks ≡ walks = c.pop.ensures.walks walks next (ap (λ (t : Walks). t.walks) c.in_ok-push.ensures.ok) in
    let kept : set places n c.push-2.new.self ≡ places = ap (set places n) c.in-Err.ensures.err ∙ set_same places n old within c.index_mut.ensures.value in
    subst (λ (v : List FoundWalk). IsListed nodes width v (set places n c.push-2.new.self)) (sym left) (subst (IsListed nodes width walks) (sym kept) c.self.invariant)
