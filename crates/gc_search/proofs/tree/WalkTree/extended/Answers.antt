use Rattle.std.proofs.Common.{◌≡◌, ◌+◌, length, refl, ap, subst, ◌∙◌}
use Rattle.gc_prod.specs.Leading.{pair}
use Rattle.gc_search.specs.Links.{Link, Walks}
use Rattle.gc_search.specs.Tails.{edges_by}
use Rattle.gc_search.proofs.TailLaws.{told_further}
use Rattle.gc_search.proofs.tree.WalkTree.extended.Goals as goal

pub returns-clause-told : goal.returns-clause-told
returns-clause-told c =
    let tree = c.args.self.now in
    let n = c.edge_count.result in
    let by = c.args.by in
    let longer : Link = record { at = pair by.node by.state; cost = c.last.inside.cost + c.from.result; edges = c.in-Some.edges; before = c.args.place + 1; by = by.by } in
    told_further tree.setting tree.walks c.args.place n c.at-last.result.now longer c.at-last.ensures.exact c.at-last.ensures.told c.requires.within refl
    (c.in-Some.ensures.1 ∙ ap (λ (v : Link). v.edges + n) c.last.view_is)
    (subst (λ (t : Walks). n ≡ length (edges_by t.setting by.by)) c.self.view_is c.edge_count.ensures.exact)
