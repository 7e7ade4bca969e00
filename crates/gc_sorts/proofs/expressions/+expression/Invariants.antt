use Rattle.std.proofs.Common.{◌≡◌, ℕ, drop, map}
use Rattle.gc_expr.specs.Trees.{renamed, row}
use Rattle.gc_expr.specs.Views.{name_of, numbered_expr, numbered_sum_part, numbered_product_part}
use Rattle.gc_sorts.specs.declared.form.Takes.TheVariants as takes
use Rattle.gc_sorts.specs.Breaches.{first_among}
use Rattle.gc_sorts.specs.Expressions.{expression_breaches}
use Rattle.gc_sorts.proofs.expressions.+expression.Given as goal

abbrev pub invariant-conditions-loop-part : goal.invariant-conditions-loop-part
invariant-conditions-loop-part l =
    (at : ℕ) → first_among l.found (expression_breaches l.place.at l.folds takes.Condition at (renamed (name_of l.place.names) (row (map numbered_expr (drop l.part-index l.part-items)))))
    ≡ first_among l.initial.found (expression_breaches l.place.at l.folds takes.Condition at (renamed (name_of l.place.names) (row (map numbered_expr l.part-items))))

abbrev pub invariant-sum_parts-loop-part : goal.invariant-sum_parts-loop-part
invariant-sum_parts-loop-part l =
    (at : ℕ) → first_among l.found (expression_breaches l.place.at l.folds takes.Value at (renamed (name_of l.place.names) (row (map numbered_sum_part (drop l.part-index l.part-items)))))
    ≡ first_among l.initial.found (expression_breaches l.place.at l.folds takes.Value at (renamed (name_of l.place.names) (row (map numbered_sum_part l.part-items))))

abbrev pub invariant-product_parts-loop-part : goal.invariant-product_parts-loop-part
invariant-product_parts-loop-part l =
    (at : ℕ) → first_among l.found (expression_breaches l.place.at l.folds takes.Value at (renamed (name_of l.place.names) (row (map numbered_product_part (drop l.part-index l.part-items)))))
    ≡ first_among l.initial.found (expression_breaches l.place.at l.folds takes.Value at (renamed (name_of l.place.names) (row (map numbered_product_part l.part-items))))
