-- The variables of one more part of an expression.
use Rattle.std.proofs.Common.{◌≡◌, ap, sym, ◌∙◌, ℕ, suc, ◌+◌, ◌<◌, List, ◌∷◌, ◌++◌, append_assoc, length, get_or, drop, map, rules, add-one, refl}
use Rattle.std.proofs.Math.Seq.{drop-cons}
use Rattle.gc_base.specs.declared.place.Sym.{Sym}
use Rattle.gc_expr.specs.Trees as tree
use Rattle.gc_expr.specs.Trees.{Kind, TreeOf, row, more}
use Rattle.gc_expr.specs.Views.{numbered_expr, numbered_sum_part, numbered_product_part}
use Rattle.gc_expr.specs.declared.expr.Expr.{Expr}
use Rattle.gc_expr.specs.declared.expr.ExprNode.{the_lemmas}
use Rattle.gc_expr.specs.declared.expr.SumPart.{SumPart}
use Rattle.gc_expr.specs.declared.expr.ProductPart.{ProductPart}
use Rattle.gc_rules.specs.ExpressionVariables.{in_expression}

sum_part_is : (part : SumPart) → numbered_sum_part part ≡ tree.SumPart part.minus (numbered_expr part.part)
unfolding numbered_sum_part numbered_expr
sum_part_is part = search (rules, the_lemmas)

product_part_is : (part : ProductPart) → numbered_product_part part ≡ tree.ProductPart part.op (numbered_expr part.part)
unfolding numbered_product_part numbered_expr
product_part_is part = search (rules, the_lemmas)

part_step : (part : Expr) (parts : List Expr) → in_expression (row (map numbered_expr (part ∷ parts))) ≡ in_expression (numbered_expr part) ++ in_expression (row (map numbered_expr parts))
unfolding in_expression
part_step part parts = refl

sum_step : (part : SumPart) (parts : List SumPart)
    → in_expression (row (map numbered_sum_part (part ∷ parts))) ≡ in_expression (numbered_expr part.part) ++ in_expression (row (map numbered_sum_part parts))
unfolding in_expression
sum_step part parts = ap (λ t. in_expression (more t (row (map numbered_sum_part parts)))) (sum_part_is part)

product_step : (part : ProductPart) (parts : List ProductPart)
    → in_expression (row (map numbered_product_part (part ∷ parts))) ≡ in_expression (numbered_expr part.part) ++ in_expression (row (map numbered_product_part parts))
unfolding in_expression
product_step part parts = ap (λ t. in_expression (more t (row (map numbered_product_part parts)))) (product_part_is part)

-- the parts from a place on are the part there and those after it
part_and_rest : {X : Type 0} (items : List X) (i : ℕ) (x : X) → i < length items → x ≡ get_or items i x → drop i items ≡ x ∷ drop (i + 1) items
part_and_rest items i x h e = rw add-one (drop-cons items i x h ∙ ap (λ y. y ∷ drop (suc i) items) (sym e))

module _ {P : Type 0} {k : Kind} (tree_of : P → TreeOf Sym k) (own : P → List Sym)
    (step : (part : P) (parts : List P) → in_expression (row (map tree_of (part ∷ parts))) ≡ own part ++ in_expression (row (map tree_of parts))) where
  next : (found after : List Sym) (items : List P) (i : ℕ) (part : P)
      → i < length items → part ≡ get_or items i part → after ≡ found ++ own part
      → after ++ in_expression (row (map tree_of (drop (i + 1) items))) ≡ found ++ in_expression (row (map tree_of (drop i items)))
  next found after items i part h e a =
      let front = ap (λ parts. found ++ in_expression (row (map tree_of parts))) (part_and_rest items i part h e) in
      let one = ap (λ more. found ++ more) (step part (drop (i + 1) items)) in
      let joined = append_assoc found (own part) (in_expression (row (map tree_of (drop (i + 1) items)))) in
      cc

pub part_next : (found after : List Sym) (items : List Expr) (i : ℕ) (part : Expr)
    → i < length items → part ≡ get_or items i part → after ≡ found ++ in_expression (numbered_expr part)
    → after ++ in_expression (row (map numbered_expr (drop (i + 1) items))) ≡ found ++ in_expression (row (map numbered_expr (drop i items)))
part_next = next numbered_expr (λ part. in_expression (numbered_expr part)) part_step

pub sum_next : (found after : List Sym) (items : List SumPart) (i : ℕ) (part : SumPart)
    → i < length items → part ≡ get_or items i part → after ≡ found ++ in_expression (numbered_expr part.part)
    → after ++ in_expression (row (map numbered_sum_part (drop (i + 1) items))) ≡ found ++ in_expression (row (map numbered_sum_part (drop i items)))
sum_next = next numbered_sum_part (λ part. in_expression (numbered_expr part.part)) sum_step

pub product_next : (found after : List Sym) (items : List ProductPart) (i : ℕ) (part : ProductPart)
    → i < length items → part ≡ get_or items i part → after ≡ found ++ in_expression (numbered_expr part.part)
    → after ++ in_expression (row (map numbered_product_part (drop (i + 1) items))) ≡ found ++ in_expression (row (map numbered_product_part (drop i items)))
product_next = next numbered_product_part (λ part. in_expression (numbered_expr part.part)) product_step
