use Rattle.std.proofs.Common.{◌∙◌}
use Rattle.gc_rules.proofs.ExpressionLists.{part_next, sum_next, product_next}
use Rattle.gc_rules.proofs.expressions.+expressions.Goals as goal

pub push_parts-loop-part-preserved : goal.push_parts-loop-part-preserved
push_parts-loop-part-preserved t c =
    part_next c.loop-part.vars.items c.push_expression.new.vars.items c.args.parts.now c.loop-part.part-index c.part-item.result
    c.loop-part-test.true c.part-item.is c.in_ok-push_expression.ensures
    ∙ c.loop-part.invariant

pub push_sum-loop-part-preserved : goal.push_sum-loop-part-preserved
push_sum-loop-part-preserved t c =
    sum_next c.loop-part.vars.items c.push_expression.new.vars.items c.args.parts.now c.loop-part.part-index c.part-item.result
    c.loop-part-test.true c.part-item.is c.in_ok-push_expression.ensures
    ∙ c.loop-part.invariant

pub push_product-loop-part-preserved : goal.push_product-loop-part-preserved
push_product-loop-part-preserved t c =
    product_next c.loop-part.vars.items c.push_expression.new.vars.items c.args.parts.now c.loop-part.part-index c.part-item.result
    c.loop-part-test.true c.part-item.is c.in_ok-push_expression.ensures
    ∙ c.loop-part.invariant
