use Rattle.std.proofs.Common.{◌≡◌, ℕ, suc, ◌+◌, ◌<◌, ◌≤◌, List, length, map, Result, refl, sym, ap, ◌∙◌, subst, arith}
use Rattle.std.proofs.lemmas.Grind.{common_steps}
use Rattle.gc_ast.specs.QueryViews.{file_trees}
use Rattle.gc_ast.specs.Trees.{Tree, AStatement}
use Rattle.gc_query.specs.Standings.{Standing}
use Rattle.gc_query.specs.Steps.{standing}
use Rattle.gcore.specs.Endings.{Change}
use Rattle.gcore.specs.Outcomes.{Request}
use Rattle.gcore.specs.QueryFiles.{placed}
use Rattle.gcore.proofs.SessionLaws.{IsWritten, done, not_yet, room_for, session_stops, stops, written_more}
use Rattle.gcore.proofs.StatementLaws.{item_at}
use Rattle.gcore.proofs.session.run_session.Goals as goal

pub loop-i-init : goal.loop-i-init
loop-i-init g c =
    let r : Request = record { graphs = c.args.catalog.now.graphs; query = placed c.args.checked.now; style = c.args.style } in
    let faults = g.S.Sink.faults c.args.out.now in
    let taken = g.S.Sink.taken c.args.out.now in
    let room = g.S.Sink.room c.args.out.now in
    subst (λ n. IsWritten r 0 (record { graphs = c.args.catalog.now.graphs; next = n }) (record { faults_before = faults; faults_after = faults; taken_before = taken; taken_after = taken }) room room)
    (sym c.requires.begins) (not_yet r faults taken room)

pub run_statement-requires-clause-room : goal.run_statement-requires-clause-room
run_statement-requires-clause-room g c =
    room_for (record { graphs = c.args.catalog.now.graphs; query = placed c.args.checked.now; style = c.args.style }) c.loop-i.i (standing c.loop-i.catalog) _ (g.S.Sink.room c.args.out.now) (g.S.Sink.room c.loop-i.out)
    c.requires.room c.loop-i.invariant

pub returns-in_err-run_statement : goal.returns-in_err-run_statement
returns-in_err-run_statement g c =
    let r : Request = record { graphs = c.args.catalog.now.graphs; query = placed c.args.checked.now; style = c.args.style } in
    let within : c.loop-i.i < length (file_trees c.args.checked.now.file) = grind (arith, common_steps) in
    let item = item_at (file_trees c.args.checked.now.file) c.loop-i.i within in
    let stop = c.in_err-run_statement.field-0.0 in
    session_stops r _ c.from_residual.result stop c.from_residual.ensures.0 c.from_residual.ensures.1
    (stops r c.loop-i.i (placed c.args.checked.now).places _ _ (g.S.Sink.room c.args.out.now) (g.S.Sink.room c.loop-i.out) (g.S.Sink.room c.run_statement.new.out)
    (standing c.loop-i.catalog) (standing c.run_statement.new.catalog) c.loop-i.invariant refl refl item.0 item.1 stop (c.in_err-run_statement.ensures item.0 item.1))

pub loop-i-preserved : goal.loop-i-preserved
loop-i-preserved g c =
    let r : Request = record { graphs = c.args.catalog.now.graphs; query = placed c.args.checked.now; style = c.args.style } in
    let within : c.loop-i.i < length (file_trees c.args.checked.now.file) = grind (arith, common_steps) in
    let item = item_at (file_trees c.args.checked.now.file) c.loop-i.i within in
    let next : suc c.loop-i.i ≡ c.loop-i.i + 1 = omega arith in
    let out : Change = record {
      faults_before = g.S.Sink.faults c.args.out.now;
      faults_after = g.S.Sink.faults c.run_statement.new.out;
      taken_before = g.S.Sink.taken c.args.out.now;
      taken_after = g.S.Sink.taken c.run_statement.new.out;
    } in
    subst (λ n. IsWritten r n (standing c.run_statement.new.catalog) out (g.S.Sink.room c.args.out.now) (g.S.Sink.room c.run_statement.new.out)) next
    (written_more r c.loop-i.i (placed c.args.checked.now).places _ _ (g.S.Sink.room c.args.out.now) (g.S.Sink.room c.loop-i.out) (g.S.Sink.room c.run_statement.new.out)
    (standing c.loop-i.catalog) (standing c.run_statement.new.catalog) c.loop-i.invariant refl refl item.0 item.1 (c.in_ok-run_statement.ensures item.0 item.1))

pub returns : goal.returns
returns g c =
    let r : Request = record { graphs = c.args.catalog.now.graphs; query = placed c.args.checked.now; style = c.args.style } in
    let over : length (file_trees c.args.checked.now.file) ≤ c.loop-i.i = grind (arith, common_steps) in
    done r c.loop-i.i (standing c.loop-i.catalog) _ (g.S.Sink.room c.args.out.now) (g.S.Sink.room c.loop-i.out) over c.loop-i.invariant
