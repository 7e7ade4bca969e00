use Rattle.std.proofs.Common.{◌≡◌, ◌++◌, drop}
use Rattle.gc_build.specs.Kept.{kept_from}
use Rattle.gc_build.proofs.kept.kept_rows.Given as goal

-- the rows so far, before those of the rest
abbrev pub invariant-loop-place : goal.invariant-loop-place
invariant-loop-place g l = l.kept.items ++ kept_from l.making l.chain l.place (drop l.place l.table.rows) ≡ kept_from l.making l.chain 0 l.table.rows
