use Rattle.std.proofs.Common.{◌≡◌, drop}
use Rattle.serde_json.specs.View.{items_view}
use Rattle.gc_cert_text.specs.Shapes.{each_is, has_segment_shape}
use Rattle.gc_cert_text.proofs.shapes.are_segments.Given as goal

-- the rest are so just where all are
abbrev pub invariant-loop-item : goal.invariant-loop-item
invariant-loop-item l = each_is has_segment_shape (items_view (drop l.item-index l.items)) ≡ each_is has_segment_shape (items_view l.items)
