use Rattle.gc_expr.specs.Trees.{renamed}
use Rattle.gc_lower.specs.Namings.{variable_in}
use Rattle.std.proofs.Common.{◌≡◌, map, IfOk, sym, ap, ◌∙◌, subst}
use Rattle.gc_expr.specs.Views.{numbered_expr}
use Rattle.gc_alg.specs.Views.{conjunct_tree, exists_tree}
use Rattle.gc_lower.specs.Conditions.{dealt}
use Rattle.gc_lower.proofs.Dealings.{parts_of_and}
use Rattle.gc_lower.proofs.conjuncts.conjuncts_of.Goals as goal

pub returns-in-And : goal.returns-in-And
returns-in-And c =
    subst (λ trees. IfOk c.each.result (λ list. map conjunct_tree list.items ≡ dealt 0 trees (map exists_tree c.args.queries.items)))
    (ap (map (λ e. renamed (variable_in c.args.naming.now) (numbered_expr e))) c.deref.ensures.value ∙ sym (parts_of_and (variable_in c.args.naming.now) c.args.condition.now c.in-And.parts c.in-And.is)) c.each.ensures
