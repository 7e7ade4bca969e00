use Rattle.std.proofs.Common.{◌≡◌, rules}
use Rattle.std.specs.Ordering.{is_lt, eq_by_cmp}
use Rattle.std.specs.List.{dedup}
use Rattle.std.specs.List.Sorted.{IsSorted}
use Rattle.std.proofs.lemmas.Fn.{dedup_same, always_returns_same}
use Rattle.std.proofs.lemmas.List.Sorted.{ranks_by}
use Rattle.gc_rows.proofs.SortLaws.{sorted_ascend, sorted_exact}
use Rattle.gc_views.specs.Segments.{segment_order}
use Rattle.gc_views.proofs.Orders.{segment_order_total, segment_order_exact}
use Rattle.gc_views.proofs.order.in_order.Goals as goal

pub returns : goal.returns
returns c =
    let order = segment_order in
    let items = c.args.segments.items in
    let sorted = c.sort_by.new.self.items in
    let left = c.dedup_by.new.self.items in
    let moved = c.sort_by.ensures.permutation in
    let in_order : IsSorted order sorted =
    c.in_ok-sort_by.ensures.sorted (λ x y. is_lt (order x y)) (ranks_by segment_order_total (λ x. x))
    (always_returns_same _ _ _ (λ a r f called. search rules)) in
    let is : left ≡ dedup (eq_by_cmp order) sorted =
    dedup_same _ (eq_by_cmp order) _ (λ x y b f' x' y' k. search rules) sorted left c.dedup_by.ensures.filtered in
    record {
      ascend = sorted_ascend order segment_order_total segment_order_exact items sorted left moved in_order is;
      exact = sorted_exact order segment_order_total segment_order_exact items sorted left moved in_order is;
    }
