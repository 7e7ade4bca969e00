use Rattle.std.proofs.Common.{◌≡◌, ◌+◌, ◌≤◌, List, [], ◌∷◌, map, length, drop, Some, sym, ap, subst, arith}
use Rattle.std.specs.List.{slice_get}
use Rattle.gc_prod.specs.declared.moves.Hop.{Hop}
use Rattle.gc_prod.specs.Products.{Bundle, moved, moves_by}
use Rattle.gc_search.specs.Arrivals.{FoundWalk}
use Rattle.gc_search.specs.Links.{Link}
use Rattle.gc_search.specs.Places.{tree_of}
use Rattle.gc_search.specs.Waiting.{IsGrown}
use Rattle.gc_search.proofs.BundleLaws.{grown_none, grown_hop, drop_all}
use Rattle.gc_search.proofs.TreeLaws.{got}
use Rattle.gc_search.proofs.settling.add_extensions.Goals as goal

pub loop-i-preserved : goal.loop-i-preserved
loop-i-preserved c =
    let tree = tree_of c.args.settled.now in
    let k = c.args.k in
    let i = c.loop-i.i in
    let hop = c.index-bundle-i.result in
    let state = c.bundle.inside.state in
    let hops = c.bundle.inside.hops.now in
    let start = c.args.more.now.items in
    let before = c.loop-i.more.items in
    let middle = c.add_extension.new.more.items in
    let inv = subst
    (λ (b : Bundle). (a : FoundWalk) → slice_get tree.walks c.args.place ≡ Some a → (after : List Link) → IsGrown tree k a (map (moved b.state) (drop i b.hops)) before after → IsGrown tree k a (moves_by b) start after)
    (sym c.bundle.view_is) c.loop-i.invariant in
    let one : (a : FoundWalk) → slice_get tree.walks c.args.place ≡ Some a → IsGrown tree k a (moved state hop ∷ []) before middle = λ a at.
    subst (λ (v : Hop). IsGrown tree k a (moved state v ∷ []) before middle) (sym c.index-bundle-i.is) (c.in_ok-add_extension.ensures a at) in
    subst
    (λ (b : Bundle). (a : FoundWalk) → slice_get tree.walks c.args.place ≡ Some a → (after : List Link) → IsGrown tree k a (map (moved b.state) (drop (i + 1) b.hops)) middle after
    → IsGrown tree k a (moves_by b) start after)
    c.bundle.view_is
    (λ a at after g. inv a at after (grown_hop tree k a state hops i hop (got hops i hop c.loop-i-test.true c.index-bundle-i.is) before middle after (one a at) g))

pub returns : goal.returns
returns c = λ a at.
    let tree = tree_of c.args.settled.now in
    let k = c.args.k in
    let bundle = c.args.bundle.now in
    let more = c.loop-i.more.items in
    let over : length bundle.hops ≤ c.loop-i.i = omega (arith, c.loop-i-test.false, ap (λ (b : Bundle). length b.hops) c.bundle.view_is) in
    c.loop-i.invariant a at more
    (subst (λ (v : List Hop). IsGrown tree k a (map (moved bundle.state) v) more more) (sym (drop_all bundle.hops c.loop-i.i over)) (grown_none tree k a more))
