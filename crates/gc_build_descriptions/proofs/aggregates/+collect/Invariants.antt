use Rattle.std.proofs.Common.{◌≡◌, ◌++◌, drop, map}
use Rattle.gc_build_descriptions.specs.Aggregates.{aggregations}
use Rattle.gc_build_descriptions.specs.Standing.{plain}
use Rattle.gc_expr.specs.Trees.{row}
use Rattle.gc_expr.specs.Views.{numbered_sum_part, numbered_product_part}
use Rattle.gc_build_descriptions.proofs.aggregates.+collect.Given as goal

-- the aggregates so far and those of the rest make the whole
abbrev pub invariant-collect_sum-loop-part : goal.invariant-collect_sum-loop-part
invariant-collect_sum-loop-part l =
    map plain l.found.items ++ aggregations (row (map numbered_sum_part (drop l.part-index l.part-items)))
    ≡ map plain l.initial.found.items ++ aggregations (row (map numbered_sum_part l.part-items))

abbrev pub invariant-collect_product-loop-part : goal.invariant-collect_product-loop-part
invariant-collect_product-loop-part l =
    map plain l.found.items ++ aggregations (row (map numbered_product_part (drop l.part-index l.part-items)))
    ≡ map plain l.initial.found.items ++ aggregations (row (map numbered_product_part l.part-items))
