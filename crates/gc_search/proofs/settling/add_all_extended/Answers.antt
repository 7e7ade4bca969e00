use Rattle.std.proofs.Common.{◌≡◌, ℕ, ◌≤◌, List, [], length, Some, ap, sym, subst, ◌∙◌, arith}
use Rattle.std.specs.List.{flat_map, slice_get}
use Rattle.gc_prod.specs.declared.moves.Move.{Move}
use Rattle.gc_prod.specs.declared.moves.Pair.{Pair}
use Rattle.gc_prod.specs.Products.{Setting, Bundle, bundles, moves_by}
use Rattle.gc_search.specs.declared.settled.Settled.TheInside.{Inside}
use Rattle.gc_search.specs.Arrivals.{FoundWalk}
use Rattle.gc_search.specs.Links.{Link}
use Rattle.gc_search.specs.Places.{Listing, tree_of}
use Rattle.gc_search.specs.Waiting.{IsGrown}
use Rattle.gc_search.proofs.BundleLaws.{moves_from, moves_left, grown_none, grown_bundle, drop_all}
use Rattle.gc_search.proofs.settling.add_all_extended.Goals as goal

same_at : (w a : FoundWalk) → Some w ≡ Some a → w.at ≡ a.at
same_at w a h = let e : w ≡ a = cc in ap (λ (v : FoundWalk). v.at) e

-- the bundles of a pair are those of the walk that arrives at it
got_bundle : (s t : Setting) (q p : Pair) (j : ℕ) (b : Bundle) → s ≡ t → q ≡ p → slice_get (bundles s q.node q.state) j ≡ Some b → slice_get (bundles t p.node p.state) j ≡ Some b
got_bundle s t q p j b e f h = subst (λ (r : Pair). slice_get (bundles t r.node r.state) j ≡ Some b) f (subst (λ (v : Setting). slice_get (bundles v q.node q.state) j ≡ Some b) e h)

none_left : (s t : Setting) (q p : Pair) (j n : ℕ) → s ≡ t → q ≡ p → ((node : ℕ) → n ≡ length (bundles s node q.state)) → n ≤ j → moves_from (bundles t p.node p.state) j ≡ []
none_left s t q p j n e f count over =
    let here : n ≡ length (bundles t p.node p.state) = subst (λ (r : Pair). n ≡ length (bundles t p.node r.state)) f (subst (λ (v : Setting). n ≡ length (bundles v p.node q.state)) e (count p.node)) in
    ap (flat_map moves_by) (drop_all (bundles t p.node p.state) j (omega (arith, here, over)))

pub returns-in_err-add_extensions-clause-few : goal.returns-in_err-add_extensions-clause-few
returns-in_err-add_extensions-clause-few g c = λ a h.
    let l = c.args.settled.now in
    let j = c.loop-j.j in
    let b = c.bundle-bundle.result in
    let e = ap (λ (v : Inside). v.tree.setting) c.settled-inside.view_is ∙ ap (λ (s : Listing). s.setting) c.settled.view_is in
    let f = ap (λ (v : Link). v.at) c.behind-settled.view_is ∙ same_at _ a (sym c.at.ensures.exact ∙ (ap (λ (s : Listing). slice_get s.walks c.args.place) c.settled.view_is ∙ h)) in
    let there = got_bundle _ l.setting c.behind-settled.inside.at a.at j b e f c.bundle-bundle.ensures.exact in
    omega (arith, c.loop-j.invariant.few a h, c.bundle-bundle.ensures.step, moves_left (bundles l.setting a.at.node a.at.state) j b there)

pub loop-j-preserved : goal.loop-j-preserved
loop-j-preserved g c =
    let l = c.args.settled.now in
    let j = c.loop-j.j in
    let b = c.bundle-bundle.result in
    let e = ap (λ (v : Inside). v.tree.setting) c.settled-inside.view_is ∙ ap (λ (s : Listing). s.setting) c.settled.view_is in
    let there : (a : FoundWalk) → slice_get l.walks c.args.place ≡ Some a → slice_get (bundles l.setting a.at.node a.at.state) j ≡ Some b = λ a h.
    let f = ap (λ (v : Link). v.at) c.behind-settled.view_is ∙ same_at _ a (sym c.at.ensures.exact ∙ (ap (λ (s : Listing). slice_get s.walks c.args.place) c.settled.view_is ∙ h)) in
    got_bundle _ l.setting c.behind-settled.inside.at a.at j b e f c.bundle-bundle.ensures.exact in
    record {
      grown = λ a h after g.
          c.loop-j.invariant.grown a h after
          (grown_bundle (tree_of l) c.args.k a (bundles l.setting a.at.node a.at.state) j b (there a h) c.loop-j.more.items c.add_extensions.new.more.items after (c.in_ok-add_extensions.ensures a h) g);
      few = λ a h. omega (arith, c.loop-j.invariant.few a h, c.bundle-bundle.ensures.step, moves_left (bundles l.setting a.at.node a.at.state) j b (there a h));
    }

pub returns-clause-grown : goal.returns-clause-grown
returns-clause-grown g c = λ a h.
    let l = c.args.settled.now in
    let j = c.loop-j.j in
    let more = c.loop-j.more.items in
    let e = ap (λ (v : Inside). v.tree.setting) c.settled-inside.view_is ∙ ap (λ (s : Listing). s.setting) c.settled.view_is in
    let f = ap (λ (v : Link). v.at) c.behind-settled.view_is ∙ same_at _ a (sym c.at.ensures.exact ∙ (ap (λ (s : Listing). slice_get s.walks c.args.place) c.settled.view_is ∙ h)) in
    let none = none_left _ l.setting c.behind-settled.inside.at a.at j c.bundle_count-j-end.result e f c.bundle_count-j-end.ensures (omega (arith, c.loop-j-test.false)) in
    c.loop-j.invariant.grown a h more (subst (λ (v : List Move). IsGrown (tree_of l) c.args.k a v more more) (sym none) (grown_none (tree_of l) c.args.k a more))
