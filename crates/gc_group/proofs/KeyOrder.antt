-- The order of keys is total, and only equal keys tie.
use Rattle.std.proofs.Common.{None, Some, refl, ap}
use Rattle.std.specs.declared.cmp.Ordering.{Ordering}
use Rattle.std.specs.Cmp.{IsTotalOrder, on_total}
use Rattle.std.specs.Cmp.Lexicographic.{lists_total, options_total}
use Rattle.std.specs.FinMap.{IsAntisymmetric, slice_cmp-IsAntisymmetric}
use Rattle.std.specs.Option.{option_cmp}
use Rattle.gc_group.specs.Groups.{key_order}
use Rattle.gc_group.specs.declared.key.Key.{Key}
use Rattle.gc_rows.specs.DataLaws.{datum_order_total, datum_order_exact}

pub key_order_total : IsTotalOrder key_order
key_order_total = on_total (λ (key : Key). key.parts) (lists_total (options_total datum_order_total))

option_cmp-exact : {K : Type 0} (R : K → K → Ordering) → IsAntisymmetric R → IsAntisymmetric (option_cmp R)
option_cmp-exact R exact None None h = refl
option_cmp-exact R exact None (Some y) h = cc
option_cmp-exact R exact (Some x) None h = cc
option_cmp-exact R exact (Some x) (Some y) h = ap Some (exact x y h)

pub key_order_exact : IsAntisymmetric key_order
key_order_exact a b tie = ap (λ parts. record { parts = parts }) (slice_cmp-IsAntisymmetric (option_cmp-exact _ datum_order_exact) a.parts b.parts tie)
