use Rattle.std.proofs.Common.{◌≡◌, drop, map}
use Rattle.gc_expr.specs.Trees.{row}
use Rattle.gc_expr.specs.Views.{numbered_sum_part, numbered_product_part}
use Rattle.gc_values.specs.ExprValues.{aggregates, sum_from, product_from}
use Rattle.gc_values.specs.References.{value_seen}
use Rattle.gc_values.proofs.values.+value.Given as goal

-- the total so far and the rest of the chain make the whole
abbrev pub invariant-sum_from-loop-part : goal.invariant-sum_from-loop-part
invariant-sum_from-loop-part g l =
    let parts = row (map numbered_sum_part l.part-items) in
    let later = row (map numbered_sum_part (drop l.part-index l.part-items)) in
    record {
      value : sum_from l.context l.folded (value_seen l.total) later ≡ sum_from l.context l.initial.folded (value_seen l.initial.total) parts;
      rest : drop (aggregates later) l.folded ≡ drop (aggregates parts) l.initial.folded;
    }

abbrev pub invariant-product_from-loop-part : goal.invariant-product_from-loop-part
invariant-product_from-loop-part g l =
    let parts = row (map numbered_product_part l.part-items) in
    let later = row (map numbered_product_part (drop l.part-index l.part-items)) in
    record {
      value : product_from l.context l.folded (value_seen l.total) later ≡ product_from l.context l.initial.folded (value_seen l.initial.total) parts;
      rest : drop (aggregates later) l.folded ≡ drop (aggregates parts) l.initial.folded;
    }
