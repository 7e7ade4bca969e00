use Rattle.std.proofs.Common.{◌≡◌, rules}
use Rattle.std.specs.Ordering.{is_lt, eq_by_cmp}
use Rattle.std.specs.List.{dedup}
use Rattle.std.specs.List.Sorted.{IsSorted}
use Rattle.std.proofs.lemmas.Fn.{dedup_same, always_returns_same}
use Rattle.std.proofs.lemmas.List.Sorted.{ranks_by}
use Rattle.gc_rows.proofs.SortLaws.{sorted_ascend, sorted_exact}
use Rattle.gc_cert_searches.specs.SegmentOrder.{segment_order}
use Rattle.gc_cert_searches.proofs.Order.{segment_order_exact, segment_order_total}
use Rattle.gc_cert_searches.proofs.segments.sort.Goals as goal

pub returns-clause-ascend : goal.returns-clause-ascend
returns-clause-ascend c =
    let in_order : IsSorted segment_order c.sort_by.new.self.items =
    c.in_ok-sort_by.ensures.sorted (λ x y. is_lt (segment_order x y)) (ranks_by segment_order_total (λ x. x)) (always_returns_same _ _ _ (λ a r f called. search rules)) in
    let left : c.dedup_by.new.self.items ≡ dedup (eq_by_cmp segment_order) c.sort_by.new.self.items =
    dedup_same _ (eq_by_cmp segment_order) _ (λ x y b f' x' y' k. search rules) _ _ c.dedup_by.ensures.filtered in
    sorted_ascend segment_order segment_order_total segment_order_exact c.args.segments.items c.sort_by.new.self.items c.dedup_by.new.self.items c.sort_by.ensures.permutation in_order left

pub returns-clause-exact : goal.returns-clause-exact
returns-clause-exact c =
    let in_order : IsSorted segment_order c.sort_by.new.self.items =
    c.in_ok-sort_by.ensures.sorted (λ x y. is_lt (segment_order x y)) (ranks_by segment_order_total (λ x. x)) (always_returns_same _ _ _ (λ a r f called. search rules)) in
    let left : c.dedup_by.new.self.items ≡ dedup (eq_by_cmp segment_order) c.sort_by.new.self.items =
    dedup_same _ (eq_by_cmp segment_order) _ (λ x y b f' x' y' k. search rules) _ _ c.dedup_by.ensures.filtered in
    sorted_exact segment_order segment_order_total segment_order_exact c.args.segments.items c.sort_by.new.self.items c.dedup_by.new.self.items c.sort_by.ensures.permutation in_order left
