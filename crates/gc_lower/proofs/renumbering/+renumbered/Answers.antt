use Rattle.gc_lower.specs.Namings.{variable_in}
use Rattle.std.proofs.Common.{ap, sym, ◌∙◌}
use Rattle.gc_expr.specs.declared.expr.ExprNode.TheViews.{Aggregate}
use Rattle.gc_expr.specs.Views.{numbered_node}
use Rattle.gc_lower.specs.Conditions.{moved}
use Rattle.gc_lower.proofs.Renumberings.{same_aggregate, same_and, same_or, same_product, same_sum}
use Rattle.gc_lower.proofs.renumbering.+renumbered.Goals as goal

pub renumbered_node-returns-in_ok-boxed-in-Some : goal.renumbered_node-returns-in_ok-boxed-in-Some
renumbered_node-returns-in_ok-boxed-in-Some t c =
    let v = variable_in c.args.naming.now in
    let before = c.args.before in
    same_aggregate v before c.in-Aggregate.fold c.in_ok-boxed-in-Some.field-0 c.in-Some.of c.in_ok-boxed-in-Some.ensures
    ∙ ap (λ operand. moved v before (numbered_node (Aggregate c.in-Aggregate.fold operand))) (sym c.in-Some.is)
    ∙ ap (λ node. moved v before (numbered_node node)) (sym c.in-Aggregate.is)

pub renumbered_node-returns-in_ok-sum_parts-in-Sum : goal.renumbered_node-returns-in_ok-sum_parts-in-Sum
renumbered_node-returns-in_ok-sum_parts-in-Sum t c =
    let v = variable_in c.args.naming.now in
    let before = c.args.before in
    same_sum v before c.in_ok-boxed-in-Sum.field-0 c.in-Sum.first c.in_ok-boxed-in-Sum.ensures
    c.in_ok-sum_parts-in-Sum.field-0 c.in-Sum.rest c.in_ok-sum_parts-in-Sum.ensures
    ∙ ap (λ node. moved v before (numbered_node node)) (sym c.in-Sum.is)

pub renumbered_node-returns-in_ok-product_parts-in-Product : goal.renumbered_node-returns-in_ok-product_parts-in-Product
renumbered_node-returns-in_ok-product_parts-in-Product t c =
    let v = variable_in c.args.naming.now in
    let before = c.args.before in
    same_product v before c.in_ok-boxed-in-Product.field-0 c.in-Product.first c.in_ok-boxed-in-Product.ensures
    c.in_ok-product_parts-in-Product.field-0 c.in-Product.rest c.in_ok-product_parts-in-Product.ensures
    ∙ ap (λ node. moved v before (numbered_node node)) (sym c.in-Product.is)

pub renumbered_node-returns-in_ok-listed-in-And : goal.renumbered_node-returns-in_ok-listed-in-And
renumbered_node-returns-in_ok-listed-in-And t c =
    let v = variable_in c.args.naming.now in
    let before = c.args.before in
    same_and v before c.in_ok-listed-in-And.field-0 c.in-And.parts c.in_ok-listed-in-And.ensures
    ∙ ap (λ node. moved v before (numbered_node node)) (sym c.in-And.is)

pub renumbered_node-returns-in_ok-listed-in-Or : goal.renumbered_node-returns-in_ok-listed-in-Or
renumbered_node-returns-in_ok-listed-in-Or t c =
    let v = variable_in c.args.naming.now in
    let before = c.args.before in
    same_or v before c.in_ok-listed-in-Or.field-0 c.in-Or.parts c.in_ok-listed-in-Or.ensures
    ∙ ap (λ node. moved v before (numbered_node node)) (sym c.in-Or.is)
