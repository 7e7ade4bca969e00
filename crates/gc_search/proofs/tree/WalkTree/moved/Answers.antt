use Rattle.std.proofs.Common.{◌≡◌, ◌-◌, subst, Some, [], ◌∙◌}
use Rattle.std.specs.List.{slice_get}
use Rattle.gc_search.specs.Links.{Link, walk_of, IsNumber}
use Rattle.gc_search.specs.Tails.{edges_by}
use Rattle.gc_search.proofs.TailLaws.{edges_stay}
use Rattle.gc_search.proofs.tree.WalkTree.moved.Goals as goal

pub loop-moved-preserved : goal.loop-moved-preserved
loop-moved-preserved c =
    let setting = c.args.self.now.setting in
    let walks = c.args.self.now.walks in
    let l = c.loop-moved.moved in
    let next = c.at-moved.result.now in
    let number = subst (λ (v : Link). IsNumber walks v.before) c.moved.view_is c.if-has.ensures in
    let none = subst (λ (v : Link). edges_by setting v.by ≡ []) c.moved.view_is (c.stays.ensures c.loop-moved-test.true setting) in
    let there = subst (λ (v : Link). slice_get walks (v.before - 1) ≡ Some (walk_of setting walks next)) c.moved.view_is c.at-moved.ensures.exact in
    edges_stay setting walks l next number none there ∙ c.loop-moved.invariant
