use Rattle.std.proofs.Common.{◌≡◌, rules, Bor, List, Option}
use Rattle.std.specs.Ordering.{on, is_lt, eq_by_cmp}
use Rattle.std.specs.Cmp.{on_total}
use Rattle.std.specs.List.{dedup}
use Rattle.std.specs.List.Sorted.{IsSorted}
use Rattle.std.proofs.lemmas.Fn.{dedup_same, always_returns_same}
use Rattle.std.proofs.lemmas.List.Sorted.{ranks_by}
use Rattle.gc_rows.specs.declared.datum.Datum.{Datum}
use Rattle.gc_rows.specs.Arrays.{cells_order}
use Rattle.gc_rows.proofs.OrderLaws.{cells_order_total, cells_order_exact, left_ascend, left_exact}
use Rattle.gc_rows.proofs.sorting.sort.Goals as goal

pub returns-clause-ascend : goal.returns-clause-ascend
returns-clause-ascend c =
    let key : Bor (List (Option Datum)) → List (Option Datum) = λ r. r.now in
    let in_order : IsSorted (on key cells_order) c.sort_by.new.self.items =
    c.in_ok-sort_by.ensures.sorted (λ x y. is_lt (cells_order x.now y.now)) (ranks_by (on_total key cells_order_total) (λ x. x)) (always_returns_same _ _ _ (λ a r f called. search rules)) in
    let left : c.dedup_by.new.self.items ≡ dedup (eq_by_cmp (on key cells_order)) c.sort_by.new.self.items =
    dedup_same _ (eq_by_cmp (on key cells_order)) _ (λ x y b f' x' y' k. search rules) _ _ c.dedup_by.ensures.filtered in
    left_ascend key cells_order cells_order_total cells_order_exact c.args.rows.items c.sort_by.new.self.items c.dedup_by.new.self.items c.sort_by.ensures.permutation in_order left

pub returns-clause-exact : goal.returns-clause-exact
returns-clause-exact c =
    let key : Bor (List (Option Datum)) → List (Option Datum) = λ r. r.now in
    let in_order : IsSorted (on key cells_order) c.sort_by.new.self.items =
    c.in_ok-sort_by.ensures.sorted (λ x y. is_lt (cells_order x.now y.now)) (ranks_by (on_total key cells_order_total) (λ x. x)) (always_returns_same _ _ _ (λ a r f called. search rules)) in
    let left : c.dedup_by.new.self.items ≡ dedup (eq_by_cmp (on key cells_order)) c.sort_by.new.self.items =
    dedup_same _ (eq_by_cmp (on key cells_order)) _ (λ x y b f' x' y' k. search rules) _ _ c.dedup_by.ensures.filtered in
    left_exact key cells_order cells_order_total cells_order_exact c.args.rows.items c.sort_by.new.self.items c.dedup_by.new.self.items c.sort_by.ensures.permutation in_order left
