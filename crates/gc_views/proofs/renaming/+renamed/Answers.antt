use Rattle.gc_views.specs.Namings.{variable_in}
use Rattle.std.proofs.Common.{ap, sym, ◌∙◌}
use Rattle.gc_expr.specs.declared.expr.ExprNode.TheViews.{Aggregate}
use Rattle.gc_expr.specs.Views.{numbered_node}
use Rattle.gc_expr.specs.Trees.{renamed}
use Rattle.gc_views.proofs.Renamed.{same_aggregate, same_and, same_or, same_product, same_sum}
use Rattle.gc_views.proofs.renaming.+renamed.Goals as goal

pub renamed_node-returns-in_ok-boxed-in-Some : goal.renamed_node-returns-in_ok-boxed-in-Some
renamed_node-returns-in_ok-boxed-in-Some t c =
    let v = variable_in c.args.naming.now in
    same_aggregate v c.in-Aggregate.fold c.in_ok-boxed-in-Some.field-0 c.in-Some.of c.in_ok-boxed-in-Some.ensures
    ∙ ap (λ operand. renamed v (numbered_node (Aggregate c.in-Aggregate.fold operand))) (sym c.in-Some.is)
    ∙ ap (λ node. renamed v (numbered_node node)) (sym c.in-Aggregate.is)

pub renamed_node-returns-in_ok-sum_parts-in-Sum : goal.renamed_node-returns-in_ok-sum_parts-in-Sum
renamed_node-returns-in_ok-sum_parts-in-Sum t c =
    let v = variable_in c.args.naming.now in
    same_sum v c.in_ok-boxed-in-Sum.field-0 c.in-Sum.first c.in_ok-boxed-in-Sum.ensures
    c.in_ok-sum_parts-in-Sum.field-0 c.in-Sum.rest c.in_ok-sum_parts-in-Sum.ensures
    ∙ ap (λ node. renamed v (numbered_node node)) (sym c.in-Sum.is)

pub renamed_node-returns-in_ok-product_parts-in-Product : goal.renamed_node-returns-in_ok-product_parts-in-Product
renamed_node-returns-in_ok-product_parts-in-Product t c =
    let v = variable_in c.args.naming.now in
    same_product v c.in_ok-boxed-in-Product.field-0 c.in-Product.first c.in_ok-boxed-in-Product.ensures
    c.in_ok-product_parts-in-Product.field-0 c.in-Product.rest c.in_ok-product_parts-in-Product.ensures
    ∙ ap (λ node. renamed v (numbered_node node)) (sym c.in-Product.is)

pub renamed_node-returns-in_ok-listed-in-And : goal.renamed_node-returns-in_ok-listed-in-And
renamed_node-returns-in_ok-listed-in-And t c =
    let v = variable_in c.args.naming.now in
    same_and v c.in_ok-listed-in-And.field-0 c.in-And.parts c.in_ok-listed-in-And.ensures
    ∙ ap (λ node. renamed v (numbered_node node)) (sym c.in-And.is)

pub renamed_node-returns-in_ok-listed-in-Or : goal.renamed_node-returns-in_ok-listed-in-Or
renamed_node-returns-in_ok-listed-in-Or t c =
    let v = variable_in c.args.naming.now in
    same_or v c.in_ok-listed-in-Or.field-0 c.in-Or.parts c.in_ok-listed-in-Or.ensures
    ∙ ap (λ node. renamed v (numbered_node node)) (sym c.in-Or.is)
