use Rattle.std.proofs.Common.{◌≡◌}
use Rattle.gc_query.specs.Steps.{standing}
use Rattle.gcore.specs.QueryFiles.{placed}
use Rattle.gcore.specs.declared.style.Style.TheVariants.{Text}
use Rattle.gcore.proofs.LogLaws.{IsEvaluatedSoFar}
use Rattle.gcore.proofs.logging.log_session.Given as goal

-- the log has what the statements so far have evaluated
abbrev pub invariant-loop-i : goal.invariant-loop-i
invariant-loop-i g l =
    IsEvaluatedSoFar (record { graphs = l.initial.catalog.graphs; query = placed l.checked; style = Text }) l.initial.catalog.names l.fn.wants l.i l.catalog l.log
