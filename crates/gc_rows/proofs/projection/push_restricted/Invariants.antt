use Rattle.std.proofs.Common.{◌≡◌, ◌++◌, take}
use Rattle.gc_rows.specs.Algebra.{projected}
use Rattle.gc_rows.proofs.projection.push_restricted.Given as goal

-- the rows so far are added
abbrev pub invariant-loop-i : goal.invariant-loop-i
invariant-loop-i l = l.out ≡ record { schema = l.initial.out.schema; rows = l.initial.out.rows ++ projected l.initial.out.schema (take l.i l.rows.rows) }
