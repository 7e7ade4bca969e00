use Rattle.std.proofs.Common.{rules}
use Rattle.std.specs.Ordering.{is_lt}
use Rattle.std.proofs.lemmas.Fn.{always_returns_same}
use Rattle.std.proofs.lemmas.List.Sorted.{ranks_by}
use Rattle.gc_group.specs.Groups.{key_order}
use Rattle.gc_group.proofs.KeyOrder.{key_order_total}
use Rattle.gc_group.proofs.element_rows.sorted.Goals as goal

pub returns-clause-ascend : goal.returns-clause-ascend
returns-clause-ascend g c =
    c.in_ok-sort_by.ensures.sorted (λ x y. is_lt (key_order x.key y.key)) (ranks_by key_order_total (λ x. x.key)) (always_returns_same _ _ _ (λ a r f called. search rules))

pub returns-clause-stable : goal.returns-clause-stable
returns-clause-stable g c =
    c.sort_by.ensures.stable (λ x y. is_lt (key_order x.key y.key)) (ranks_by key_order_total (λ x. x.key)) (always_returns_same _ _ _ (λ a r f called. search rules))
