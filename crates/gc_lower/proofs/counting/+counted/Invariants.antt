use Rattle.std.proofs.Common.{◌≡◌, ◌+◌, drop, map}
use Rattle.gc_expr.specs.Trees.{row}
use Rattle.gc_expr.specs.Views.{numbered_expr, numbered_sum_part, numbered_product_part}
use Rattle.gc_lower.specs.Conditions.{exists_count}
use Rattle.gc_lower.proofs.counting.+counted.Given as goal

-- those so far and those of the rest are those of all
abbrev pub invariant-in_parts-loop-part : goal.invariant-in_parts-loop-part
invariant-in_parts-loop-part l = l.count + exists_count (row (map numbered_expr (drop l.part-index l.parts))) ≡ exists_count (row (map numbered_expr l.parts))

-- those so far and those of the rest are those of all
abbrev pub invariant-in_sum-loop-part : goal.invariant-in_sum-loop-part
invariant-in_sum-loop-part l =
    l.count + exists_count (row (map numbered_sum_part (drop l.part-index l.parts))) ≡ exists_count (row (map numbered_sum_part l.parts))

-- those so far and those of the rest are those of all
abbrev pub invariant-in_product-loop-part : goal.invariant-in_product-loop-part
invariant-in_product-loop-part l =
    l.count + exists_count (row (map numbered_product_part (drop l.part-index l.parts))) ≡ exists_count (row (map numbered_product_part l.parts))
