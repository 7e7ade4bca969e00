use Rattle.gc_views.specs.Namings.{variable_in}
use Rattle.std.proofs.Common.{◌≡◌, take, map}
use Rattle.gc_expr.specs.Views.{numbered_expr, numbered_sum_part, numbered_product_part}
use Rattle.gc_expr.specs.Trees.{renamed}
use Rattle.gc_views.proofs.renaming.+renamed.Given as goal

abbrev pub invariant-listed-loop-part : goal.invariant-listed-loop-part
invariant-listed-loop-part l =
    map numbered_expr l.made.items ≡ map (λ e. renamed (variable_in l.naming) (numbered_expr e)) (take l.part-index l.part-items)

abbrev pub invariant-sum_parts-loop-part : goal.invariant-sum_parts-loop-part
invariant-sum_parts-loop-part l =
    map numbered_sum_part l.made.items ≡ map (λ p. renamed (variable_in l.naming) (numbered_sum_part p)) (take l.part-index l.part-items)

abbrev pub invariant-product_parts-loop-part : goal.invariant-product_parts-loop-part
invariant-product_parts-loop-part l =
    map numbered_product_part l.made.items ≡ map (λ p. renamed (variable_in l.naming) (numbered_product_part p)) (take l.part-index l.part-items)
