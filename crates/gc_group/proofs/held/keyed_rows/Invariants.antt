use Rattle.std.proofs.Common.{◌≡◌, ◌++◌, drop}
use Rattle.gc_group.specs.Gathered.{keyed_from, keyed_rows}
use Rattle.gc_group.proofs.held.keyed_rows.Given as goal

-- with those of the rest of the rows they are all that have keys
abbrev pub invariant-loop-row : goal.invariant-loop-row
invariant-loop-row l = l.held.items ++ keyed_from l.row (drop l.row l.keys) ≡ keyed_rows l.keys
