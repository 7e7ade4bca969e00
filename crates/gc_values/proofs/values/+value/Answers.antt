use Rattle.std.proofs.Common.{ap, ◌∙◌}
use Rattle.gc_values.specs.Arithmetic.{operated}
use Rattle.gc_values.specs.References.{value_seen}
use Rattle.gc_values.proofs.Chains.{sum_next, sum_left, product_next, product_left}
use Rattle.gc_values.proofs.values.+value.Goals as goal

pub sum_from-loop-part-preserved : goal.sum_from-loop-part-preserved
sum_from-loop-part-preserved g t c =
    let items = c.deref-part-items.result.now in
    let i = c.loop-part.part-index in
    let part = c.part-item.result in
    record {
      value =
          sum_next c.args.context.now c.loop-part.folded c.value_of-value.new.folded (value_seen c.loop-part.total) (value_seen c.value_of-value.result) (value_seen c.on-total.result)
          items i part c.loop-part-test.true c.part-item.is c.value_of-value.ensures.value c.value_of-value.ensures.rest
          (c.on-total.ensures ∙ ap (λ op. operated op (value_seen c.loop-part.total) (value_seen c.value_of-value.result)) c.of_sum.ensures)
          ∙ c.loop-part.invariant.value;
      rest =
          sum_left c.loop-part.folded c.value_of-value.new.folded items i part c.loop-part-test.true c.part-item.is c.value_of-value.ensures.rest
          ∙ c.loop-part.invariant.rest;
    }

pub product_from-loop-part-preserved : goal.product_from-loop-part-preserved
product_from-loop-part-preserved g t c =
    let items = c.deref-part-items.result.now in
    let i = c.loop-part.part-index in
    let part = c.part-item.result in
    record {
      value =
          product_next c.args.context.now c.loop-part.folded c.value_of-value.new.folded (value_seen c.loop-part.total) (value_seen c.value_of-value.result) (value_seen c.on-total.result)
          items i part c.loop-part-test.true c.part-item.is c.value_of-value.ensures.value c.value_of-value.ensures.rest
          (c.on-total.ensures ∙ ap (λ op. operated op (value_seen c.loop-part.total) (value_seen c.value_of-value.result)) c.of_product.ensures)
          ∙ c.loop-part.invariant.value;
      rest =
          product_left c.loop-part.folded c.value_of-value.new.folded items i part c.loop-part-test.true c.part-item.is c.value_of-value.ensures.rest
          ∙ c.loop-part.invariant.rest;
    }
