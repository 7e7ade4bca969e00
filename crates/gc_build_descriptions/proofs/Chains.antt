-- The aggregates of one more part of a chain.
use Rattle.std.proofs.Common.{◌≡◌, ap, sym, ◌∙◌, ℕ, suc, ◌+◌, ◌<◌, List, ◌∷◌, ◌++◌, append_assoc, length, get_or, drop, map, rules, add-one}
use Rattle.std.proofs.Math.Seq.{drop-cons}
use Rattle.gc_build_descriptions.specs.Aggregates.{Aggregation, aggregations}
use Rattle.gc_expr.specs.Trees as tree
use Rattle.gc_expr.specs.Trees.{row, more}
use Rattle.gc_expr.specs.Views.{numbered_expr, numbered_sum_part, numbered_product_part}
use Rattle.gc_expr.specs.declared.expr.ExprNode.{the_lemmas}
use Rattle.gc_expr.specs.declared.expr.SumPart.{SumPart}
use Rattle.gc_expr.specs.declared.expr.ProductPart.{ProductPart}

sum_part_is : (part : SumPart) → numbered_sum_part part ≡ tree.SumPart part.minus (numbered_expr part.part)
unfolding numbered_sum_part numbered_expr
sum_part_is part = search (rules, the_lemmas)

product_part_is : (part : ProductPart) → numbered_product_part part ≡ tree.ProductPart part.op (numbered_expr part.part)
unfolding numbered_product_part numbered_expr
product_part_is part = search (rules, the_lemmas)

sum_step : (part : SumPart) (parts : List SumPart)
    → aggregations (row (map numbered_sum_part (part ∷ parts))) ≡ aggregations (numbered_expr part.part) ++ aggregations (row (map numbered_sum_part parts))
unfolding aggregations
sum_step part parts = ap (λ t. aggregations (more t (row (map numbered_sum_part parts)))) (sum_part_is part)

product_step : (part : ProductPart) (parts : List ProductPart)
    → aggregations (row (map numbered_product_part (part ∷ parts))) ≡ aggregations (numbered_expr part.part) ++ aggregations (row (map numbered_product_part parts))
unfolding aggregations
product_step part parts = ap (λ t. aggregations (more t (row (map numbered_product_part parts)))) (product_part_is part)

-- the parts from a place on are the part there and those after it
part_and_rest : {X : Type 0} (items : List X) (i : ℕ) (x : X) → i < length items → x ≡ get_or items i x → drop i items ≡ x ∷ drop (i + 1) items
part_and_rest items i x h e = rw add-one (drop-cons items i x h ∙ ap (λ y. y ∷ drop (suc i) items) (sym e))

pub sum_next : (found after : List Aggregation) (items : List SumPart) (i : ℕ) (part : SumPart)
    → i < length items → part ≡ get_or items i part → after ≡ found ++ aggregations (numbered_expr part.part)
    → after ++ aggregations (row (map numbered_sum_part (drop (i + 1) items))) ≡ found ++ aggregations (row (map numbered_sum_part (drop i items)))
sum_next found after items i part h e a =
    let front = ap (λ parts. found ++ aggregations (row (map numbered_sum_part parts))) (part_and_rest items i part h e) in
    let step = ap (λ more. found ++ more) (sum_step part (drop (i + 1) items)) in
    let joined = append_assoc found (aggregations (numbered_expr part.part)) (aggregations (row (map numbered_sum_part (drop (i + 1) items)))) in
    cc

pub product_next : (found after : List Aggregation) (items : List ProductPart) (i : ℕ) (part : ProductPart)
    → i < length items → part ≡ get_or items i part → after ≡ found ++ aggregations (numbered_expr part.part)
    → after ++ aggregations (row (map numbered_product_part (drop (i + 1) items))) ≡ found ++ aggregations (row (map numbered_product_part (drop i items)))
product_next found after items i part h e a =
    let front = ap (λ parts. found ++ aggregations (row (map numbered_product_part parts))) (part_and_rest items i part h e) in
    let step = ap (λ more. found ++ more) (product_step part (drop (i + 1) items)) in
    let joined = append_assoc found (aggregations (numbered_expr part.part)) (aggregations (row (map numbered_product_part (drop (i + 1) items)))) in
    cc
