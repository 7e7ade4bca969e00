use Rattle.std.proofs.Common.{◌≡◌, ◌∙◌, sym, ap, subst, IfOk}
use Rattle.gc_ast.specs.declared.query.Formula.{out-Formula}
use Rattle.gc_expr.specs.Views.{name_of, numbered_expr}
use Rattle.gc_lower.specs.Scopes.{variable_of}
use Rattle.gc_lower.proofs.Renamings.{renamed_twice}
use Rattle.gc_lower.proofs.TreeParts.{formula_parts}
use Rattle.gc_views.specs.Views.{expression_of}
use Rattle.gc_views.specs.Namings.{names_of, scope}
use Rattle.gc_views.proofs.reading.expression.Goals as goal

pub returns : goal.returns
returns c =
    let names = names_of c.args.naming.now in
    let s = scope c.args.naming.now in
    subst (λ due. IfOk c.renamed.result (λ e. numbered_expr e ≡ due))
    (sym (renamed_twice (variable_of s) (name_of names) (numbered_expr (out-Formula c.args.formula.now).expr)) ∙ sym (ap (expression_of s) (formula_parts names c.args.formula.now)))
    c.renamed.ensures
