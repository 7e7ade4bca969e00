-- One more part of a chain.
use Rattle.std.proofs.Common.{◌≡◌, ap, sym, ◌∙◌, ℕ, suc, ◌+◌, ◌<◌, List, ◌∷◌, length, get_or, drop, map, rules, add-one}
use Rattle.std.proofs.Math.Seq.{drop-cons}
use Rattle.std.proofs.lemmas.List.{drop-drop}
use Rattle.gc_expr.specs.Trees as tree
use Rattle.gc_expr.specs.Trees.{row, more}
use Rattle.gc_expr.specs.Views.{numbered_expr, numbered_sum_part, numbered_product_part}
use Rattle.gc_expr.specs.declared.expr.ExprNode.{the_lemmas}
use Rattle.gc_expr.specs.declared.expr.SumPart.{SumPart}
use Rattle.gc_expr.specs.declared.expr.ProductPart.{ProductPart}
use Rattle.gc_values.specs.Arithmetic.{operated, sum_operation, product_operation}
use Rattle.gc_values.specs.Contexts.{Context}
use Rattle.gc_values.specs.ExprValues.{aggregates, value_of, sum_from, product_from}
use Rattle.gc_values.specs.declared.val.Val.{Val}

numbered_sum_part_is : (part : SumPart) → numbered_sum_part part ≡ tree.SumPart part.minus (numbered_expr part.part)
unfolding numbered_sum_part numbered_expr
numbered_sum_part_is part = search (rules, the_lemmas)

numbered_product_part_is : (part : ProductPart) → numbered_product_part part ≡ tree.ProductPart part.op (numbered_expr part.part)
unfolding numbered_product_part numbered_expr
numbered_product_part_is part = search (rules, the_lemmas)

pub sum_step : (ctx : Context) (folded : List Val) (total : Val) (part : SumPart) (parts : List SumPart)
    → sum_from ctx folded total (row (map numbered_sum_part (part ∷ parts)))
    ≡ sum_from ctx (drop (aggregates (numbered_expr part.part)) folded) (operated (sum_operation part.minus) total (value_of ctx folded (numbered_expr part.part))) (row (map numbered_sum_part parts))
unfolding sum_from
sum_step ctx folded total part parts = ap (λ t. sum_from ctx folded total (more t (row (map numbered_sum_part parts)))) (numbered_sum_part_is part)

pub product_step : (ctx : Context) (folded : List Val) (total : Val) (part : ProductPart) (parts : List ProductPart)
    → product_from ctx folded total (row (map numbered_product_part (part ∷ parts)))
    ≡ product_from ctx (drop (aggregates (numbered_expr part.part)) folded) (operated (product_operation part.op) total (value_of ctx folded (numbered_expr part.part))) (row (map numbered_product_part parts))
unfolding product_from
product_step ctx folded total part parts = ap (λ t. product_from ctx folded total (more t (row (map numbered_product_part parts)))) (numbered_product_part_is part)

pub sum_drop : (folded : List Val) (part : SumPart) (parts : List SumPart)
    → drop (aggregates (row (map numbered_sum_part (part ∷ parts)))) folded
    ≡ drop (aggregates (row (map numbered_sum_part parts))) (drop (aggregates (numbered_expr part.part)) folded)
unfolding aggregates
sum_drop folded part parts =
    ap (λ t. drop (aggregates (more t (row (map numbered_sum_part parts)))) folded) (numbered_sum_part_is part)
    ∙ sym (drop-drop (aggregates (row (map numbered_sum_part parts))) (aggregates (numbered_expr part.part)) folded)

pub product_drop : (folded : List Val) (part : ProductPart) (parts : List ProductPart)
    → drop (aggregates (row (map numbered_product_part (part ∷ parts)))) folded
    ≡ drop (aggregates (row (map numbered_product_part parts))) (drop (aggregates (numbered_expr part.part)) folded)
unfolding aggregates
product_drop folded part parts =
    ap (λ t. drop (aggregates (more t (row (map numbered_product_part parts)))) folded) (numbered_product_part_is part)
    ∙ sym (drop-drop (aggregates (row (map numbered_product_part parts))) (aggregates (numbered_expr part.part)) folded)

-- the parts from a place on are the part there and those after it
part_and_rest : {X : Type 0} (items : List X) (i : ℕ) (x : X) → i < length items → x ≡ get_or items i x → drop i items ≡ x ∷ drop (i + 1) items
part_and_rest items i x h e = rw add-one (drop-cons items i x h ∙ ap (λ y. y ∷ drop (suc i) items) (sym e))

pub sum_next : (ctx : Context) (folded left : List Val) (total value after : Val) (items : List SumPart) (i : ℕ) (part : SumPart)
    → i < length items → part ≡ get_or items i part
    → value ≡ value_of ctx folded (numbered_expr part.part)
    → left ≡ drop (aggregates (numbered_expr part.part)) folded
    → after ≡ operated (sum_operation part.minus) total value
    → sum_from ctx left after (row (map numbered_sum_part (drop (i + 1) items))) ≡ sum_from ctx folded total (row (map numbered_sum_part (drop i items)))
sum_next ctx folded left total value after items i part h e v l a =
    let front = part_and_rest items i part h e in
    let bridge = ap (λ xs. sum_from ctx folded total (row (map numbered_sum_part xs))) front in
    let step = sum_step ctx folded total part (drop (i + 1) items) in
    cc

pub sum_left : (folded left : List Val) (items : List SumPart) (i : ℕ) (part : SumPart)
    → i < length items → part ≡ get_or items i part → left ≡ drop (aggregates (numbered_expr part.part)) folded
    → drop (aggregates (row (map numbered_sum_part (drop (i + 1) items)))) left ≡ drop (aggregates (row (map numbered_sum_part (drop i items)))) folded
sum_left folded left items i part h e l =
    let front = part_and_rest items i part h e in
    let bridge = ap (λ xs. drop (aggregates (row (map numbered_sum_part xs))) folded) front in
    let step = sum_drop folded part (drop (i + 1) items) in
    cc

pub product_next : (ctx : Context) (folded left : List Val) (total value after : Val) (items : List ProductPart) (i : ℕ) (part : ProductPart)
    → i < length items → part ≡ get_or items i part
    → value ≡ value_of ctx folded (numbered_expr part.part)
    → left ≡ drop (aggregates (numbered_expr part.part)) folded
    → after ≡ operated (product_operation part.op) total value
    → product_from ctx left after (row (map numbered_product_part (drop (i + 1) items))) ≡ product_from ctx folded total (row (map numbered_product_part (drop i items)))
product_next ctx folded left total value after items i part h e v l a =
    let front = part_and_rest items i part h e in
    let bridge = ap (λ xs. product_from ctx folded total (row (map numbered_product_part xs))) front in
    let step = product_step ctx folded total part (drop (i + 1) items) in
    cc

pub product_left : (folded left : List Val) (items : List ProductPart) (i : ℕ) (part : ProductPart)
    → i < length items → part ≡ get_or items i part → left ≡ drop (aggregates (numbered_expr part.part)) folded
    → drop (aggregates (row (map numbered_product_part (drop (i + 1) items)))) left ≡ drop (aggregates (row (map numbered_product_part (drop i items)))) folded
product_left folded left items i part h e l =
    let front = part_and_rest items i part h e in
    let bridge = ap (λ xs. drop (aggregates (row (map numbered_product_part xs))) folded) front in
    let step = product_drop folded part (drop (i + 1) items) in
    cc
