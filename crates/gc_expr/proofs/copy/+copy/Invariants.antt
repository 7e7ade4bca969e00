use Rattle.std.proofs.Common.{◌≡◌, take, map}
use Rattle.gc_expr.specs.Views.{numbered_expr, numbered_sum_part, numbered_product_part}
use Rattle.gc_expr.proofs.copy.+copy.Given as goal

abbrev pub invariant-copy_parts-loop-part : goal.invariant-copy_parts-loop-part
invariant-copy_parts-loop-part l = map numbered_expr l.copied.items ≡ map numbered_expr (take l.part-index l.part-items)

abbrev pub invariant-copy_sum-loop-part : goal.invariant-copy_sum-loop-part
invariant-copy_sum-loop-part l = map numbered_sum_part l.copied.items ≡ map numbered_sum_part (take l.part-index l.part-items)

abbrev pub invariant-copy_product-loop-part : goal.invariant-copy_product-loop-part
invariant-copy_product-loop-part l = map numbered_product_part l.copied.items ≡ map numbered_product_part (take l.part-index l.part-items)
