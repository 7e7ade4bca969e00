use Rattle.std.proofs.Common.{◌≡◌, drop}
use Rattle.serde_json.specs.View.{items_view}
use Rattle.gc_cert_text.specs.Numbers.{has_segment_numbers}
use Rattle.gc_cert_text.specs.Shapes.{each_is}
use Rattle.gc_cert_text.proofs.search_numbers.have_numbers.Given as goal

-- the rest are so just where all are
abbrev pub invariant-loop-item : goal.invariant-loop-item
invariant-loop-item l = each_is has_segment_numbers (items_view (drop l.item-index l.items)) ≡ each_is has_segment_numbers (items_view l.items)
