use Rattle.std.proofs.Common.{◌≡◌, ◌<◌, List, length, get_or, ap, subst, ◌∙◌, arith}
use Rattle.std.proofs.lemmas.List.{length-map}
use Rattle.gc_ast.specs.QueryViews.{statement_tree}
use Rattle.gc_ast.specs.declared.query.Statement.{Statement}
use Rattle.gc_expr.specs.Views.{Names}
use Rattle.gc_lower.specs.Namings.{scope_of}
use Rattle.gc_query.specs.Logged.{IsLogged}
use Rattle.gc_query.specs.Steps.{IsStep}
use Rattle.gc_query.proofs.StepLaws.{statement_built, statement_is}
use Rattle.gc_query.proofs.steps.step.Goals as goal

pub statement_step-requires : goal.statement_step-requires
statement_step-requires g c =
    let names : Names = c.args.checked.now.file.names in
    let statements : List Statement = c.args.checked.now.file.statements.items in
    let there : c.args.i < length statements = omega (arith, c.requires.there, length-map statements (statement_tree names)) in
    let is : c.index.result.now ≡ get_or statements c.args.i c.index.result.now =
    c.index.ensures ∙ ap (λ f. get_or f.statements.items c.args.i c.index.result.now) c.file.ensures.file in
    statement_built (scope_of c.args.checked.now 0) names statements c.args.i c.index.result.now there is c.requires.built

pub returns-clause-step : goal.returns-clause-step
returns-clause-step g c = λ statement at.
    let names : Names = c.args.checked.now.file.names in
    let statements : List Statement = c.args.checked.now.file.statements.items in
    let there : c.args.i < length statements = omega (arith, c.requires.there, length-map statements (statement_tree names)) in
    let is : c.index.result.now ≡ get_or statements c.args.i c.index.result.now =
    c.index.ensures ∙ ap (λ f. get_or f.statements.items c.args.i c.index.result.now) c.file.ensures.file in
    subst (λ t. IsStep (scope_of c.args.checked.now 0) c.args.catalog.now c.statement_step.new.catalog t c.statement_step.result)
    (statement_is (scope_of c.args.checked.now 0) names statements c.args.i c.index.result.now there is statement at) c.statement_step.ensures.step

pub returns-clause-log : goal.returns-clause-log
returns-clause-log g c = λ statement at.
    let names : Names = c.args.checked.now.file.names in
    let statements : List Statement = c.args.checked.now.file.statements.items in
    let there : c.args.i < length statements = omega (arith, c.requires.there, length-map statements (statement_tree names)) in
    let is : c.index.result.now ≡ get_or statements c.args.i c.index.result.now =
    c.index.ensures ∙ ap (λ f. get_or f.statements.items c.args.i c.index.result.now) c.file.ensures.file in
    subst (λ t. IsLogged (scope_of c.args.checked.now 0) c.args.catalog.now t c.args.log.now c.statement_step.new.log c.statement_step.result)
    (statement_is (scope_of c.args.checked.now 0) names statements c.args.i c.index.result.now there is statement at) c.statement_step.ensures.log
