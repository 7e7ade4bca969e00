use Rattle.std.proofs.Common.{◌≡◌, List, Ok, Err, refl, sym, ap, subst, ◌∙◌}
use Rattle.gc_ast.specs.QueryViews.{query_tree}
use Rattle.gc_ast.specs.Trees.{Ask}
use Rattle.gc_lower.specs.Namings.{scope_of}
use Rattle.gc_query.specs.Queries.{Denotes}
use Rattle.gc_query.specs.Evaluations.{Evaluates, Evaluation}
use Rattle.gc_query.specs.Logs.{Log, Tells}
use Rattle.gc_query.specs.Standings.{Made}
use Rattle.gc_query.specs.Steps.{standing, with_next}
use Rattle.gc_query.proofs.EvaluationLaws.{tells_taken}
use Rattle.gc_query.proofs.StepLaws.{ask_fails, ask_prints, step_refused}
use Rattle.gc_query.proofs.steps.ask_step.Goals as goal

pub returns-in_err-made-clause-step : goal.returns-in_err-made-clause-step
returns-in_err-made-clause-step g c =
    let s = scope_of c.args.checked.now 0 in
    let query = query_tree c.args.checked.now.file.names c.args.query.now in
    step_refused s c.args.catalog.now c.answered.new.catalog c.in_err-made.ensures.kept (Ask query) (λ fault. Denotes s (standing c.args.catalog.now) query (Err fault)) (ask_fails s (standing c.args.catalog.now) query)
    c.from_residual.result c.in_err-made.field-0.0 c.from_residual.ensures.0 c.from_residual.ensures.1 c.in_err-made.ensures.due

pub returns-clause-step : goal.returns-clause-step
returns-clause-step g c =
    let s = scope_of c.args.checked.now 0 in
    let query = query_tree c.args.checked.now.file.names c.args.query.now in
    let made : Made = record { graph = c.made.inside.graph; next = c.made.inside.next } in
    let same : made ≡ c.in_ok-made.made = c.made.view_is in (
      made,
      ask_prints s (standing c.args.catalog.now) query made (subst (λ m. Denotes s (standing c.args.catalog.now) query (Ok m)) (sym same) c.in_ok-made.ensures.due),
      refl,
      c.set_next.ensures ∙ ap (λ n. with_next n made.next) c.in_ok-made.ensures.kept,
    )

pub returns-clause-log : goal.returns-clause-log
returns-clause-log g c =
    let s = scope_of c.args.checked.now 0 in
    let query = query_tree c.args.checked.now.file.names c.args.query.now in
    let are : List Evaluation → Type 0 = Evaluates s c.args.catalog.now.names (standing c.args.catalog.now) query in
    subst (Tells s are c.args.log.now) (sym c.in_ok-take.ensures.taken)
    (tells_taken s are c.args.log.now c.answered.new.told c.behind-told.ensures.begins
    (subst (λ (l : Log). Tells s are l c.answered.new.told) c.behind-told.ensures.told c.in_ok-made.ensures.told))
