use Rattle.std.proofs.Common.{◌≡◌, ◌++◌, drop, map}
use Rattle.gc_expr.specs.Trees.{row}
use Rattle.gc_expr.specs.Views.{numbered_expr, numbered_sum_part, numbered_product_part}
use Rattle.gc_rules.specs.ExpressionVariables.{in_expression}
use Rattle.gc_rules.proofs.expressions.+expressions.Given as goal

-- the variables so far and those of the rest make the whole
abbrev pub invariant-push_parts-loop-part : goal.invariant-push_parts-loop-part
invariant-push_parts-loop-part l =
    l.vars.items ++ in_expression (row (map numbered_expr (drop l.part-index l.parts))) ≡ l.initial.vars.items ++ in_expression (row (map numbered_expr l.parts))

abbrev pub invariant-push_sum-loop-part : goal.invariant-push_sum-loop-part
invariant-push_sum-loop-part l =
    l.vars.items ++ in_expression (row (map numbered_sum_part (drop l.part-index l.parts))) ≡ l.initial.vars.items ++ in_expression (row (map numbered_sum_part l.parts))

abbrev pub invariant-push_product-loop-part : goal.invariant-push_product-loop-part
invariant-push_product-loop-part l =
    l.vars.items ++ in_expression (row (map numbered_product_part (drop l.part-index l.parts))) ≡ l.initial.vars.items ++ in_expression (row (map numbered_product_part l.parts))
