use Rattle.std.proofs.Common.{◌≡◌, ◌++◌, drop}
use Rattle.gc_group.specs.Gathered.{keyed_from, keyed_rows}
use Rattle.gc_build_numbers.specs.Keys.{keys_from, keys_of}
use Rattle.gc_build_numbers.proofs.element_rows.element_rows.Given as goal

-- with those of the rest of the rows they are all that have keys
abbrev pub invariant-loop-place : goal.invariant-loop-place
invariant-loop-place g l =
    l.rows.items ++ keyed_from l.place (keys_from l.setting l.before l.variable l.place (drop l.place l.table.rows)) ≡ keyed_rows (keys_of l.setting l.before l.variable)
