use Rattle.std.proofs.Common.{◌≡◌, drop, map}
use Rattle.gc_expr.specs.Trees.{row}
use Rattle.gc_expr.specs.Views.{numbered_expr, numbered_sum_part, numbered_product_part}
use Rattle.gc_values.specs.Mentions.{mentions}
use Rattle.gc_values.proofs.mentioning.+mentioned.Given as goal

-- it occurs in all where it occurs in the rest
abbrev pub invariant-in_parts-loop-part : goal.invariant-in_parts-loop-part
invariant-in_parts-loop-part l = mentions l.var (row (map numbered_expr (drop l.part-index l.parts))) ≡ mentions l.var (row (map numbered_expr l.parts))

-- it occurs in all where it occurs in the rest
abbrev pub invariant-in_sum-loop-part : goal.invariant-in_sum-loop-part
invariant-in_sum-loop-part l = mentions l.var (row (map numbered_sum_part (drop l.part-index l.parts))) ≡ mentions l.var (row (map numbered_sum_part l.parts))

-- it occurs in all where it occurs in the rest
abbrev pub invariant-in_product-loop-part : goal.invariant-in_product-loop-part
invariant-in_product-loop-part l =
    mentions l.var (row (map numbered_product_part (drop l.part-index l.parts))) ≡ mentions l.var (row (map numbered_product_part l.parts))
