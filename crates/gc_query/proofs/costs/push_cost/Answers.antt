use Rattle.std.proofs.Common.{ℕ, ◌∷◌, ◌++◌, [], sym, ap, ◌∙◌}
use Rattle.gc_ast.specs.PatternViews.{named_if}
use Rattle.gc_ast.specs.declared.file.File.{File}
use Rattle.gc_base.specs.declared.place.Sym.{Sym}
use Rattle.gc_expr.specs.Views.{name_of}
use Rattle.gc_lower.specs.Namings.{scope_in, scope_of}
use Rattle.gc_lower.specs.Scopes.{numbered}
use Rattle.gc_query.specs.Costs.{cost_if}
use Rattle.gc_query.specs.declared.costs.CostAt.{CostAt}
use Rattle.gc_query.proofs.costs.push_cost.Goals as goal

abbrev at_token : ℕ → Sym → CostAt
at_token token x = record { var = x; token = token }

pub returns : goal.returns
unfolding scope_in
returns c =
    let names = c.args.checked.now.file.names in
    c.in_ok-push.ensures.items
    ∙ ap (λ costs. c.args.costs.now.items ++ costs)
    (ap (λ x. at_token c.in-Some.cost.token x ∷ []) (c.variable.ensures ∙ ap (λ (f : File). numbered f.names (name_of f.names c.in-Some.cost.sym)) c.file.ensures.file)
    ∙ sym (ap (λ o. cost_if (scope_of c.args.checked.now 0) (named_if names o)) c.in-Some.is))
