use Rattle.std.proofs.Common.{◌≡◌, ◌-◌, ◌<◌, sym, subst, Some}
use Rattle.std.specs.List.{slice_get}
use Rattle.gc_search.specs.Links.{Link, walk_of}
use Rattle.gc_search.proofs.WayLaws.{IsBack, back_one}
use Rattle.gc_search.proofs.tree.WalkTree.way.Goals as goal

pub loop-link-preserved : goal.loop-link-preserved
loop-link-preserved c =
    let setting = c.args.self.now.setting in
    let walks = c.args.self.now.walks in
    let l = c.loop-link.link in
    let next = c.at-link-in-loop-link.result.now in
    let some = subst (λ (v : Link). 0 < v.before) c.link.view_is c.loop-link-test.true in
    let there = subst (λ (v : Link). slice_get walks (v.before - 1) ≡ Some (walk_of setting walks next)) c.link-in-loop-link.view_is c.at-link-in-loop-link.ensures.exact in
    record {
      within = c.at-link-in-loop-link.ensures.told.before;
      back = λ a h. subst (IsBack setting walks a next) (sym c.in_ok-push.ensures.items) (back_one setting walks a l next c.loop-link.way.items some there (c.loop-link.invariant.back a h));
    }
