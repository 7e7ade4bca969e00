use Rattle.std.proofs.Common.{◌≡◌, refl, sym, ap, subst}
use Rattle.gcore.specs.Explanations.{IsExplainedOver, all_lines}
use Rattle.gcore.specs.Outcomes.{Request}
use Rattle.gcore.specs.QueryFiles.{placed}
use Rattle.gc_query.specs.declared.log.Wants.TheVariants.{Plans}
use Rattle.gcore.specs.declared.style.Style.TheVariants.{Text}
use Rattle.gcore.proofs.EndTextLaws.{explained, session_stops, stopped, text_written}
use Rattle.gcore.proofs.explain.explain_session.Goals as goal

pub returns-in_err-log : goal.returns-in_err-log
returns-in_err-log g c =
    let r : Request = record { graphs = c.args.catalog.now.graphs; query = placed c.args.checked.now; style = Text } in
    let stop = c.in_err-log.field-0.0 in
    session_stops r (IsExplainedOver c.args.catalog.now.names r) _ c.from_residual.result stop c.from_residual.ensures.0 c.from_residual.ensures.1
    (stopped r c.args.catalog.now.names Plans (IsExplainedOver c.args.catalog.now.names r) _ refl stop c.in_err-log.ensures)

pub write_lines-requires : goal.write_lines-requires
write_lines-requires g c =
    let r : Request = record { graphs = c.args.catalog.now.graphs; query = placed c.args.checked.now; style = Text } in
    λ x here. c.requires.room x here (all_lines c.lines.result.now)
    (subst (IsExplainedOver c.args.catalog.now.names r) (sym (ap all_lines c.lines.ensures)) (explained r c.args.catalog.now.names c.in_ok-log.log c.in_ok-log.ensures))

pub returns : goal.returns
returns g c =
    let r : Request = record { graphs = c.args.catalog.now.graphs; query = placed c.args.checked.now; style = Text } in
    text_written r (IsExplainedOver c.args.catalog.now.names r) (all_lines c.lines.result.now)
    (subst (IsExplainedOver c.args.catalog.now.names r) (sym (ap all_lines c.lines.ensures)) (explained r c.args.catalog.now.names c.in_ok-log.log c.in_ok-log.ensures))
    _ c.write_lines.result c.write_lines.ensures
