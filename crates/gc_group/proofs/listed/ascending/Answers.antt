use Rattle.std.proofs.Common.{◌≡◌, rules}
use Rattle.std.specs.Ordering.{is_lt, eq_by_cmp}
use Rattle.std.specs.List.{dedup}
use Rattle.std.specs.List.Sorted.{IsSorted}
use Rattle.std.proofs.lemmas.Fn.{dedup_same, always_returns_same}
use Rattle.std.proofs.lemmas.List.Sorted.{ranks_by}
use Rattle.gc_base.specs.Literals.{literal_order}
use Rattle.gc_base.specs.LiteralLaws.{literal_order_total, literal_order_exact}
use Rattle.gc_rows.proofs.SortLaws.{sorted_exact}
use Rattle.gc_group.proofs.listed.ascending.Goals as goal

pub returns : goal.returns
returns c =
    let in_order : IsSorted literal_order c.sort_by.new.self.items =
    c.in_ok-sort_by.ensures.sorted (λ x y. is_lt (literal_order x y)) (ranks_by literal_order_total (λ x. x)) (always_returns_same _ _ _ (λ a r f called. search rules)) in
    let left : c.dedup_by.new.self.items ≡ dedup (eq_by_cmp literal_order) c.sort_by.new.self.items =
    dedup_same _ (eq_by_cmp literal_order) _ (λ x y b f' x' y' k. search rules) _ _ c.dedup_by.ensures.filtered in
    sorted_exact literal_order literal_order_total literal_order_exact c.args.listed.items c.sort_by.new.self.items c.dedup_by.new.self.items c.sort_by.ensures.permutation in_order left
