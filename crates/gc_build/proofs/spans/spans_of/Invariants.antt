use Rattle.std.proofs.Common.{◌≡◌, ◌++◌, drop}
use Rattle.gc_build.specs.AllPaths.{spans_from, spans_of}
use Rattle.gc_build.proofs.spans.spans_of.Given as goal

-- those of the rows so far, before those of the rest
abbrev pub invariant-loop-place : goal.invariant-loop-place
invariant-loop-place l = l.spans.items ++ spans_from l.kept l.path l.place (drop l.place l.table.rows) ≡ spans_of l.making l.kept l.path
