use Rattle.std.proofs.Common.{◌≡◌}
use Rattle.gc_query.specs.Steps.{standing}
use Rattle.gcore.specs.QueryFiles.{placed}
use Rattle.gcore.proofs.SessionLaws.{IsWritten}
use Rattle.gcore.proofs.session.run_session.Given as goal

-- what the statements so far print was written
abbrev pub invariant-loop-i : goal.invariant-loop-i
invariant-loop-i g l =
    IsWritten (record { graphs = l.initial.catalog.graphs; query = placed l.checked; style = l.style }) l.i (standing l.catalog)
    (record {
      faults_before = g.S.Sink.faults l.initial.out;
      faults_after = g.S.Sink.faults l.out;
      taken_before = g.S.Sink.taken l.initial.out;
      taken_after = g.S.Sink.taken l.out;
    })
    (g.S.Sink.room l.initial.out) (g.S.Sink.room l.out)
