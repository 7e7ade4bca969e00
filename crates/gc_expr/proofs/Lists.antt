-- The trees of expressions that hold lists or an operand.
use Rattle.std.proofs.Common.{◌≡◌, ℕ, Some, map, ap, ◌∙◌, rules, Vec, Box, Global}
use Rattle.gc_expr.specs.declared.expr.Expr.{Expr}
use Rattle.gc_expr.specs.declared.expr.SumPart.{SumPart}
use Rattle.gc_expr.specs.declared.expr.ProductPart.{ProductPart}
use Rattle.gc_expr.specs.declared.expr.ExprNode.{the_lemmas}
use Rattle.gc_expr.specs.declared.expr.Fold.{Fold}
use Rattle.gc_expr.specs.declared.expr.ExprNode.TheViews.{And, Or, Sum, Product, Aggregate, roll-Expr}
use Rattle.gc_expr.specs.Trees as tree
use Rattle.gc_expr.specs.Trees.{row, maybe, At, renamed}
use Rattle.gc_expr.specs.Views.{Names, name_of, expr_tree, numbered_expr, numbered_node, sum_part_tree, numbered_sum_part, product_part_tree, numbered_product_part}
use Rattle.gc_expr.proofs.Renaming.{renamed_row}

numbered_and : (token : ℕ) (parts : Vec Expr Global)
    → numbered_expr (roll-Expr (record { token = token; node = And parts })) ≡ At token (tree.And (row (map numbered_expr parts.items)))
unfolding numbered_expr
numbered_and token parts = search (rules, the_lemmas)

pub and_tree : (names : Names) (token : ℕ) (parts : Vec Expr Global)
    → expr_tree names (roll-Expr (record { token = token; node = And parts })) ≡ At token (tree.And (row (map (expr_tree names) parts.items)))
unfolding expr_tree renamed
and_tree names token parts =
    ap (renamed (name_of names)) (numbered_and token parts) ∙ ap (λ r. At token (tree.And r)) (renamed_row (name_of names) numbered_expr parts.items)

numbered_or : (token : ℕ) (parts : Vec Expr Global)
    → numbered_expr (roll-Expr (record { token = token; node = Or parts })) ≡ At token (tree.Or (row (map numbered_expr parts.items)))
unfolding numbered_expr
numbered_or token parts = search (rules, the_lemmas)

pub or_tree : (names : Names) (token : ℕ) (parts : Vec Expr Global)
    → expr_tree names (roll-Expr (record { token = token; node = Or parts })) ≡ At token (tree.Or (row (map (expr_tree names) parts.items)))
unfolding expr_tree renamed
or_tree names token parts =
    ap (renamed (name_of names)) (numbered_or token parts) ∙ ap (λ r. At token (tree.Or r)) (renamed_row (name_of names) numbered_expr parts.items)

numbered_sum : (token : ℕ) (first : Box Expr Global) (rest : Vec SumPart Global)
    → numbered_expr (roll-Expr (record { token = token; node = Sum first rest })) ≡ At token (tree.Sum (numbered_expr first.value) (row (map numbered_sum_part rest.items)))
unfolding numbered_expr numbered_sum_part
numbered_sum token first rest = search (rules, the_lemmas)

pub sum_tree : (names : Names) (token : ℕ) (first : Box Expr Global) (rest : Vec SumPart Global)
    → expr_tree names (roll-Expr (record { token = token; node = Sum first rest })) ≡ At token (tree.Sum (expr_tree names first.value) (row (map (sum_part_tree names) rest.items)))
unfolding expr_tree sum_part_tree renamed
sum_tree names token first rest =
    ap (renamed (name_of names)) (numbered_sum token first rest)
    ∙ ap (λ r. At token (tree.Sum (expr_tree names first.value) r)) (renamed_row (name_of names) numbered_sum_part rest.items)

numbered_product : (token : ℕ) (first : Box Expr Global) (rest : Vec ProductPart Global)
    → numbered_expr (roll-Expr (record { token = token; node = Product first rest })) ≡ At token (tree.Product (numbered_expr first.value) (row (map numbered_product_part rest.items)))
unfolding numbered_expr numbered_product_part
numbered_product token first rest = search (rules, the_lemmas)

pub product_tree : (names : Names) (token : ℕ) (first : Box Expr Global) (rest : Vec ProductPart Global)
    → expr_tree names (roll-Expr (record { token = token; node = Product first rest }))
    ≡ At token (tree.Product (expr_tree names first.value) (row (map (product_part_tree names) rest.items)))
unfolding expr_tree product_part_tree renamed
product_tree names token first rest =
    ap (renamed (name_of names)) (numbered_product token first rest)
    ∙ ap (λ r. At token (tree.Product (expr_tree names first.value) r)) (renamed_row (name_of names) numbered_product_part rest.items)

pub numbered_aggregate : (fold : Fold) (operand : Box Expr Global)
    → numbered_node (Aggregate fold (Some operand)) ≡ tree.Aggregate fold (maybe (Some (numbered_expr operand.value)))
unfolding numbered_node numbered_expr
numbered_aggregate fold operand = search (rules, the_lemmas)
