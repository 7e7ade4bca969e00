use Rattle.std.proofs.Common.{◌≡◌, ◌-◌, ◌<◌, ◌++◌, reverse, sym, subst, Some}
use Rattle.std.specs.List.{slice_get}
use Rattle.gc_prod.specs.SymbolHops.{steps_by}
use Rattle.gc_search.specs.Links.{Link, Walks, walk_of}
use Rattle.gc_search.proofs.WayLaws.{steps_back}
use Rattle.gc_search.proofs.tree.WalkTree.steps.Goals as goal

pub loop-link-preserved : goal.loop-link-preserved
loop-link-preserved c =
    let setting = c.args.self.now.setting in
    let walks = c.args.self.now.walks in
    let l = c.loop-link.link in
    let next = c.at-link-in-loop-link.result.now in
    let so_far = c.loop-link.steps.items in
    let inside = c.link-in-loop-link.inside in
    let some = subst (λ (v : Link). 0 < v.before) c.link-in-loop-link.view_is c.loop-link-test.true in
    let there = subst (λ (v : Link). slice_get walks (v.before - 1) ≡ Some (walk_of setting walks next)) c.link-in-loop-link.view_is c.at-link-in-loop-link.ensures.exact in
    let added = subst (λ (t : Walks). c.add_move_back.new.steps.items ≡ so_far ++ reverse (steps_by t.setting.network inside.by inside.at.node)) c.self.view_is c.in_ok-add_move_back.ensures in
    let by_link = subst (λ (v : Link). c.add_move_back.new.steps.items ≡ so_far ++ reverse (steps_by setting.network v.by v.at.node)) c.link-in-loop-link.view_is added in
    record {
      within = c.at-link-in-loop-link.ensures.told.before;
      back = λ a h. subst (λ v. (walk_of setting walks next).steps ++ reverse v ≡ a.steps) (sym by_link) (steps_back setting walks l next so_far a.steps some there (c.loop-link.invariant.back a h));
    }
