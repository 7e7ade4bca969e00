use Rattle.std.proofs.Common.{◌∙◌}
use Rattle.std.specs.Ordering.{nat_cmp, ordering_then}
use Rattle.gc_group.specs.Groups.{key_order}
use Rattle.gc_group.proofs.RankLaws.{ranks_first}
use Rattle.gc_group.proofs.held.held_cmp.Goals as goal

pub returns : goal.returns
returns c =
    let a = c.a.inside in
    let b = c.b.inside in
    let p = c.a.invariant in
    let q = c.b.invariant in
    c.ranked_cmp.ensures
    ∙ ((λ i. ordering_then (nat_cmp (p.first i) (q.first i)) (ordering_then (nat_cmp (p.second i) (q.second i)) (key_order a.key.now b.key.now)))
    ∙ (ranks_first a.key.now.parts b.key.now.parts ∙ (λ i. key_order (c.a.view_is i).key (c.b.view_is i).key)))
