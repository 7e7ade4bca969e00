-- Expressions of several parts, over other names.
use Rattle.std.proofs.Common.{◌≡◌, List, [], ◌∷◌, Some, refl, ap, sym, ◌∙◌, map, rules, Vec, Box, Global}
use Rattle.gc_base.specs.declared.place.Sym.{Sym}
use Rattle.gc_expr.specs.declared.expr.Expr.{Expr}
use Rattle.gc_expr.specs.declared.expr.Fold.{Fold}
use Rattle.gc_expr.specs.declared.expr.SumPart.{SumPart}
use Rattle.gc_expr.specs.declared.expr.ProductPart.{ProductPart}
use Rattle.gc_expr.specs.declared.expr.ExprNode.{the_lemmas}
use Rattle.gc_expr.specs.declared.expr.ExprNode.TheViews.{And, Or, Sum, Product, Aggregate}
use Rattle.gc_expr.specs.Trees as tree
use Rattle.gc_expr.specs.Trees.{Kind, TreeOf, row, more, maybe, renamed}
use Rattle.gc_expr.specs.Views.{numbered_expr, numbered_node, numbered_sum_part, numbered_product_part}
use Rattle.gc_expr.proofs.Lists.{numbered_aggregate}

and_node : (parts : Vec Expr Global) → numbered_node (And parts) ≡ tree.And (row (map numbered_expr parts.items))
unfolding numbered_node numbered_expr
and_node parts = search (rules, the_lemmas)

or_node : (parts : Vec Expr Global) → numbered_node (Or parts) ≡ tree.Or (row (map numbered_expr parts.items))
unfolding numbered_node numbered_expr
or_node parts = search (rules, the_lemmas)

sum_node : (first : Box Expr Global) (rest : Vec SumPart Global)
    → numbered_node (Sum first rest) ≡ tree.Sum (numbered_expr first.value) (row (map numbered_sum_part rest.items))
unfolding numbered_node numbered_expr numbered_sum_part
sum_node first rest = search (rules, the_lemmas)

product_node : (first : Box Expr Global) (rest : Vec ProductPart Global)
    → numbered_node (Product first rest) ≡ tree.Product (numbered_expr first.value) (row (map numbered_product_part rest.items))
unfolding numbered_node numbered_expr numbered_product_part
product_node first rest = search (rules, the_lemmas)

renamed_row : {A : Type 0} {k : Kind} (v : Sym → Sym) (g : A → TreeOf Sym k) (xs : List A)
    → renamed v (row (map g xs)) ≡ row (map (λ x. renamed v (g x)) xs)
unfolding renamed
renamed_row v g [] = refl
renamed_row v g (x ∷ xs) = ap (more (renamed v (g x))) (renamed_row v g xs)

module _ (v : Sym → Sym) where
  pub same_and : (made parts : Vec Expr Global) → map numbered_expr made.items ≡ map (λ e. renamed v (numbered_expr e)) parts.items
      → numbered_node (And made) ≡ renamed v (numbered_node (And parts))
  unfolding renamed
  same_and made parts h =
      and_node made ∙ ap (λ trees. tree.And (row trees)) h
      ∙ ap tree.And (sym (renamed_row v numbered_expr parts.items)) ∙ ap (renamed v) (sym (and_node parts))

  pub same_or : (made parts : Vec Expr Global) → map numbered_expr made.items ≡ map (λ e. renamed v (numbered_expr e)) parts.items
      → numbered_node (Or made) ≡ renamed v (numbered_node (Or parts))
  unfolding renamed
  same_or made parts h =
      or_node made ∙ ap (λ trees. tree.Or (row trees)) h
      ∙ ap tree.Or (sym (renamed_row v numbered_expr parts.items)) ∙ ap (renamed v) (sym (or_node parts))

  pub same_sum : (first other : Box Expr Global) → numbered_expr first.value ≡ renamed v (numbered_expr other.value)
      → (made parts : Vec SumPart Global) → map numbered_sum_part made.items ≡ map (λ p. renamed v (numbered_sum_part p)) parts.items
      → numbered_node (Sum first made) ≡ renamed v (numbered_node (Sum other parts))
  unfolding renamed
  same_sum first other e made parts h =
      sum_node first made ∙ (λ i. tree.Sum (e i) (row (h i)))
      ∙ ap (tree.Sum (renamed v (numbered_expr other.value))) (sym (renamed_row v numbered_sum_part parts.items)) ∙ ap (renamed v) (sym (sum_node other parts))

  pub same_product : (first other : Box Expr Global) → numbered_expr first.value ≡ renamed v (numbered_expr other.value)
      → (made parts : Vec ProductPart Global) → map numbered_product_part made.items ≡ map (λ p. renamed v (numbered_product_part p)) parts.items
      → numbered_node (Product first made) ≡ renamed v (numbered_node (Product other parts))
  unfolding renamed
  same_product first other e made parts h =
      product_node first made ∙ (λ i. tree.Product (e i) (row (h i)))
      ∙ ap (tree.Product (renamed v (numbered_expr other.value))) (sym (renamed_row v numbered_product_part parts.items)) ∙ ap (renamed v) (sym (product_node other parts))

  pub same_aggregate : (fold : Fold) (made operand : Box Expr Global) → numbered_expr made.value ≡ renamed v (numbered_expr operand.value)
      → numbered_node (Aggregate fold (Some made)) ≡ renamed v (numbered_node (Aggregate fold (Some operand)))
  unfolding renamed
  same_aggregate fold made operand e =
      numbered_aggregate fold made ∙ ap (λ of. tree.Aggregate fold (maybe (Some of))) e ∙ ap (renamed v) (sym (numbered_aggregate fold operand))
