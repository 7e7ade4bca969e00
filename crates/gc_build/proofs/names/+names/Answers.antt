use Rattle.std.proofs.Common.{◌∙◌}
use Rattle.gc_build.proofs.NameLists.{part_next, sum_next, product_next}
use Rattle.gc_build.proofs.names.+names.Goals as goal

pub add_parts-loop-part-preserved : goal.add_parts-loop-part-preserved
add_parts-loop-part-preserved t c =
    part_next c.loop-part.names.items c.add.new.names.items c.args.parts.now c.loop-part.part-index c.part-item.result
    c.loop-part-test.true c.part-item.is c.in_ok-add.ensures
    ∙ c.loop-part.invariant

pub add_sum-loop-part-preserved : goal.add_sum-loop-part-preserved
add_sum-loop-part-preserved t c =
    sum_next c.loop-part.names.items c.add.new.names.items c.args.parts.now c.loop-part.part-index c.part-item.result
    c.loop-part-test.true c.part-item.is c.in_ok-add.ensures
    ∙ c.loop-part.invariant

pub add_product-loop-part-preserved : goal.add_product-loop-part-preserved
add_product-loop-part-preserved t c =
    product_next c.loop-part.names.items c.add.new.names.items c.args.parts.now c.loop-part.part-index c.part-item.result
    c.loop-part-test.true c.part-item.is c.in_ok-add.ensures
    ∙ c.loop-part.invariant
