-- The order of segments is total, and only equal segments tie.
use Rattle.std.proofs.Common.{◌≡◌}
use Rattle.std.specs.declared.cmp.Ordering.{Ordering}
use Rattle.std.specs.declared.cmp.Ordering.TheVariants.{Less, Equal, Greater}
use Rattle.std.specs.Ordering.{nat_cmp, ordering_then}
use Rattle.std.specs.Cmp.{IsTotalOrder, nat_cmp_total, on_total, then_total}
use Rattle.std.specs.Cmp.Lexicographic.{nat_list_cmp_total}
use Rattle.std.specs.FinMap.{IsAntisymmetric, nat_cmp-IsAntisymmetric}
use Rattle.gc_base.specs.LiteralLaws.{text_order_exact}
use Rattle.gc_automata.specs.Moves.{Segment}
use Rattle.gc_base.specs.Literals.{text_order}
use Rattle.gc_rows.specs.Data.{found_order}
use Rattle.gc_rows.specs.DataLaws.{datum_order_total, datum_order_exact}
use Rattle.gc_rows.specs.declared.datum.Datum.TheVariants.{Found}
use Rattle.gc_views.specs.Segments.{segment_order}

pub segment_order_total : IsTotalOrder segment_order
segment_order_total =
    then_total (on_total (λ (s : Segment). s.view) nat_list_cmp_total)
    (then_total (on_total (λ (s : Segment). Found s.walk) datum_order_total) (on_total (λ (s : Segment). s.cost) nat_cmp_total))

-- both parts of a tie tie
first_ties : (o p : Ordering) → ordering_then o p ≡ Equal → o ≡ Equal
first_ties Less p h = h
first_ties Equal p h = cc
first_ties Greater p h = h

second_ties : (o p : Ordering) → ordering_then o p ≡ Equal → p ≡ Equal
second_ties Less p h = cc
second_ties Equal p h = h
second_ties Greater p h = cc

pub segment_order_exact : IsAntisymmetric segment_order
segment_order_exact a b tie =
    let view : a.view ≡ b.view = text_order_exact _ _ (first_ties _ _ tie) in
    let later : ordering_then (found_order a.walk b.walk) (nat_cmp a.cost b.cost) ≡ Equal =
    second_ties (text_order a.view b.view) _ tie in
    let found : Found a.walk ≡ Found b.walk =
    datum_order_exact (Found a.walk) (Found b.walk) (first_ties (found_order a.walk b.walk) (nat_cmp a.cost b.cost) later) in
    let walk : a.walk ≡ b.walk = cc in
    let cost : a.cost ≡ b.cost = nat_cmp-IsAntisymmetric _ _ (second_ties (found_order a.walk b.walk) (nat_cmp a.cost b.cost) later) in
    λ i. record { view = view i; walk = walk i; cost = cost i }
