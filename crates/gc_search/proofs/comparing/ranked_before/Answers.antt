use Rattle.std.proofs.Common.{ap, sym, subst, ◌∙◌}
use Rattle.std.specs.Ordering.{ordering_then}
use Rattle.gc_search.specs.Links.{Link}
use Rattle.gc_search.specs.Tails.{IsLevelOrder}
use Rattle.gc_search.proofs.TailLaws.{order_ranked}
use Rattle.gc_search.proofs.comparing.ranked_before.Goals as goal

pub returns-in-Some : goal.returns-in-Some
returns-in-Some c =
    let tree = c.args.tree.now in
    let e = c.in-Edge.one in
    let f = c.in-Edge-by.other in
    let one = sym (ap (λ (l : Link). l.by) c.a.view_is) ∙ c.in-Edge.is in
    let other = sym (ap (λ (l : Link). l.by) c.b.view_is) ∙ c.in-Edge-by.is in
    let first = subst (λ (l : Link). IsLevelOrder tree.walks l.before c.b.inside.before c.in-Some.order) c.a.view_is c.in-Some.ensures in
    let level = subst (λ (l : Link). IsLevelOrder tree.walks c.args.a.now.before l.before c.in-Some.order) c.b.view_is first in
    c.then.ensures ∙ (ap (ordering_then c.in-Some.order) c.cmp.ensures ∙ order_ranked tree.setting tree.walks c.args.a.now c.args.b.now e f c.in-Some.order one other level)
