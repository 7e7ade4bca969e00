use Rattle.std.proofs.Common.{ap, sym, ◌∙◌, Some}
use Rattle.gc_expr.specs.declared.expr.ExprNode.TheViews.{Aggregate}
use Rattle.gc_expr.specs.Trees as tree
use Rattle.gc_expr.specs.Trees.{maybe}
use Rattle.gc_expr.specs.Views.{numbered_node}
use Rattle.gc_expr.proofs.Lists.{numbered_aggregate}
use Rattle.gc_expr.proofs.copy.+copy.Goals as goal

pub copy_node-returns-in_ok-copy_boxed-in-Some : goal.copy_node-returns-in_ok-copy_boxed-in-Some
copy_node-returns-in_ok-copy_boxed-in-Some t c =
    let fold = c.in-Aggregate.fold in
    numbered_aggregate fold c.in_ok-copy_boxed-in-Some.field-0
    ∙ ap (λ operand. tree.Aggregate fold (maybe (Some operand))) c.in_ok-copy_boxed-in-Some.ensures
    ∙ sym (numbered_aggregate fold c.in-Some.of)
    ∙ ap (λ operand. numbered_node (Aggregate fold operand)) (sym c.in-Some.is) ∙ ap numbered_node (sym c.in-Aggregate.is)
