use Rattle.std.proofs.Common.{◌∙◌, map}
use Rattle.gc_build_descriptions.specs.Standing.{plain}
use Rattle.gc_build_descriptions.proofs.Chains.{sum_next, product_next}
use Rattle.gc_build_descriptions.proofs.aggregates.+collect.Goals as goal

pub collect_sum-loop-part-preserved : goal.collect_sum-loop-part-preserved
collect_sum-loop-part-preserved t c =
    sum_next (map plain c.loop-part.found.items) (map plain c.collect.new.found.items) c.deref-part-items.result.now c.loop-part.part-index c.part-item.result
    c.loop-part-test.true c.part-item.is c.in_ok-collect.ensures
    ∙ c.loop-part.invariant

pub collect_product-loop-part-preserved : goal.collect_product-loop-part-preserved
collect_product-loop-part-preserved t c =
    product_next (map plain c.loop-part.found.items) (map plain c.collect.new.found.items) c.deref-part-items.result.now c.loop-part.part-index c.part-item.result
    c.loop-part-test.true c.part-item.is c.in_ok-collect.ensures
    ∙ c.loop-part.invariant
