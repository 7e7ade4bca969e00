use Rattle.std.proofs.Common.{◌≡◌}
use Rattle.gcore.specs.Outcomes.{Request}
use Rattle.gcore.specs.QueryFiles.{placed}
use Rattle.gcore.proofs.MakeLaws.{due_is_there}
use Rattle.gcore.proofs.SessionLaws.{wants_at_first}
use Rattle.gcore.proofs.made.run_make.Goals as goal

pub run_session-requires-clause-room : goal.run_session-requires-clause-room
run_session-requires-clause-room g c = c.requires.room _ c.in-Ok.ensures.due

pub returns-in-Ok : goal.returns-in-Ok
returns-in-Ok g c = (_, c.in-Ok.ensures.due, c.run_session.ensures)

pub returns-in-Err : goal.returns-in-Err
returns-in-Err g c =
    let due = due_is_there c.args.kind c.args.size c.args.start in
    (due.0, due.1, wants_at_first due.0 (g.S.Sink.faults c.args.out.now) (g.S.Sink.taken c.args.out.now))
