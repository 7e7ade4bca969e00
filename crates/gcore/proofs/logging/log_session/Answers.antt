use Rattle.std.proofs.Common.{◌≡◌, ◌<◌, ◌≤◌, suc, ◌+◌, length, refl, ap, subst, arith}
use Rattle.std.proofs.lemmas.Grind.{common_steps}
use Rattle.std.proofs.lemmas.List.{drop_all}
use Rattle.gc_ast.specs.QueryViews.{file_trees}
use Rattle.gc_lower.specs.Namings.{scope_in}
use Rattle.gcore.specs.Outcomes.{Request}
use Rattle.gcore.specs.QueryFiles.{placed}
use Rattle.gcore.specs.declared.style.Style.TheVariants.{Text}
use Rattle.gcore.proofs.LogLaws.{IsEvaluatedSoFar, at_start, logged, session_stops, stops, told_more}
use Rattle.gcore.proofs.StatementLaws.{item_at}
use Rattle.gcore.proofs.logging.log_session.Goals as goal

pub loop-i-init : goal.loop-i-init
loop-i-init g c =
    let r : Request = record { graphs = c.args.catalog.now.graphs; query = placed c.args.checked.now; style = Text } in
    at_start r c.args.catalog.now.names c.args.wants c.args.catalog.now c.new-log.result (ap (λ n. record { graphs = c.args.catalog.now.graphs; next = n }) c.requires.begins) refl c.new-log.ensures

pub returns-in_err-log_statement : goal.returns-in_err-log_statement
returns-in_err-log_statement g c =
    let r : Request = record { graphs = c.args.catalog.now.graphs; query = placed c.args.checked.now; style = Text } in
    let within : c.loop-i.i < length (file_trees c.args.checked.now.file) = grind (arith, common_steps) in
    let item = item_at (file_trees c.args.checked.now.file) c.loop-i.i within in
    let stop = c.in_err-log_statement.field-0.0 in
    session_stops r c.args.catalog.now.names c.args.wants c.from_residual.result stop c.from_residual.ensures.0 c.from_residual.ensures.1
    (stops r c.args.catalog.now.names c.args.wants c.loop-i.i c.loop-i.catalog c.loop-i.log c.loop-i.invariant item.0 item.1 c.log_statement.new.catalog c.log_statement.new.log stop (c.in_err-log_statement.ensures item.0 item.1))

pub loop-i-preserved : goal.loop-i-preserved
loop-i-preserved g c =
    let r : Request = record { graphs = c.args.catalog.now.graphs; query = placed c.args.checked.now; style = Text } in
    let within : c.loop-i.i < length (file_trees c.args.checked.now.file) = grind (arith, common_steps) in
    let item = item_at (file_trees c.args.checked.now.file) c.loop-i.i within in
    let next : suc c.loop-i.i ≡ c.loop-i.i + 1 = omega arith in
    subst (λ n. IsEvaluatedSoFar r c.args.catalog.now.names c.args.wants n c.log_statement.new.catalog c.log_statement.new.log) next
    (told_more r c.args.catalog.now.names c.args.wants c.loop-i.i c.loop-i.catalog c.loop-i.log c.loop-i.invariant (c.what_a_log_gains_in_turn_it_gains_together.ensures (scope_in r.query.file 0)) item.0 item.1
    c.log_statement.new.catalog c.log_statement.new.log (c.in_ok-log_statement.ensures item.0 item.1))

pub returns : goal.returns
returns g c =
    let r : Request = record { graphs = c.args.catalog.now.graphs; query = placed c.args.checked.now; style = Text } in
    let over : length (file_trees c.args.checked.now.file) ≤ c.loop-i.i = grind (arith, common_steps) in
    logged r c.args.catalog.now.names c.args.wants c.loop-i.i c.loop-i.catalog c.loop-i.log c.loop-i.invariant (drop_all c.loop-i.i (file_trees c.args.checked.now.file) over)
