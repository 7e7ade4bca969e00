-- The order of segments is total, and only equal segments tie.
use Rattle.std.proofs.Common.{◌≡◌, [], refl, ap}
use Rattle.std.specs.declared.cmp.Ordering.{Ordering}
use Rattle.std.specs.declared.cmp.Ordering.TheVariants.{Less, Equal, Greater}
use Rattle.std.specs.Ordering.{ordering_then}
use Rattle.std.specs.Cmp.{IsTotalOrder, nat_cmp_total, on_total, then_total}
use Rattle.std.specs.Cmp.Lexicographic.{nat_list_cmp_total}
use Rattle.std.specs.FinMap.{IsAntisymmetric, nat_cmp-IsAntisymmetric, slice_cmp-IsAntisymmetric}
use Rattle.gc_base.specs.declared.walk.Walk.{Walk}
use Rattle.gc_automata.specs.Moves.{Segment}
use Rattle.gc_rows.specs.DataLaws.{datum_order_exact, datum_order_total}
use Rattle.gc_rows.specs.declared.datum.Datum.{Datum}
use Rattle.gc_rows.specs.declared.datum.Datum.TheVariants as datum
use Rattle.gc_cert_searches.specs.SegmentOrder.{segment_order}

pub segment_order_total : IsTotalOrder segment_order
segment_order_total =
    then_total (on_total (λ (s : Segment). s.view) nat_list_cmp_total)
    (then_total (on_total (λ (s : Segment). datum.Found s.walk) datum_order_total) (on_total (λ (s : Segment). s.cost) nat_cmp_total))

-- both parts of a tie tie
first_ties : (o p : Ordering) → ordering_then o p ≡ Equal → o ≡ Equal
first_ties Less p h = h
first_ties Equal p h = refl
first_ties Greater p h = h

second_ties : (o p : Ordering) → ordering_then o p ≡ Equal → p ≡ Equal
second_ties Less p h = cc
second_ties Equal p h = h
second_ties Greater p h = cc

walk_of : Datum → Walk
walk_of (datum.Found w) = w
walk_of d = record { start = 0; steps = [] }

same_walk : (v w : Walk) → datum.Found v ≡ datum.Found w → v ≡ w
unfolding walk_of
same_walk v w h = ap walk_of h

pub segment_order_exact : IsAntisymmetric segment_order
segment_order_exact a b h =
    let view : a.view ≡ b.view = slice_cmp-IsAntisymmetric nat_cmp-IsAntisymmetric a.view b.view (first_ties _ _ h) in
    let later = second_ties _ _ h in
    let walk : a.walk ≡ b.walk = same_walk a.walk b.walk (datum_order_exact (datum.Found a.walk) (datum.Found b.walk) (first_ties _ _ later)) in
    let cost : a.cost ≡ b.cost = nat_cmp-IsAntisymmetric a.cost b.cost (second_ties _ _ later) in
    λ i. record { view = view i; walk = walk i; cost = cost i }
