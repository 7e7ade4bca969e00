use Rattle.std.proofs.Common.{◌≡◌, ◌++◌, drop, map}
use Rattle.gc_expr.specs.Trees.{row}
use Rattle.gc_expr.specs.Views.{numbered_expr, numbered_sum_part, numbered_product_part}
use Rattle.gc_build.specs.Names.{names_in}
use Rattle.gc_build.proofs.names.+names.Given as goal

-- the variables so far and those of the rest make the whole
abbrev pub invariant-add_parts-loop-part : goal.invariant-add_parts-loop-part
invariant-add_parts-loop-part l =
    l.names.items ++ names_in (row (map numbered_expr (drop l.part-index l.parts))) ≡ l.initial.names.items ++ names_in (row (map numbered_expr l.parts))

abbrev pub invariant-add_sum-loop-part : goal.invariant-add_sum-loop-part
invariant-add_sum-loop-part l =
    l.names.items ++ names_in (row (map numbered_sum_part (drop l.part-index l.parts))) ≡ l.initial.names.items ++ names_in (row (map numbered_sum_part l.parts))

abbrev pub invariant-add_product-loop-part : goal.invariant-add_product-loop-part
invariant-add_product-loop-part l =
    l.names.items ++ names_in (row (map numbered_product_part (drop l.part-index l.parts))) ≡ l.initial.names.items ++ names_in (row (map numbered_product_part l.parts))
