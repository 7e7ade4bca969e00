use Rattle.std.proofs.Common.{◌≡◌, ◌++◌, drop}
use Rattle.gc_build_numbers.specs.Keys.{keys_from, keys_of}
use Rattle.gc_build_numbers.proofs.keys.keys.Given as goal

-- with the keys of the rest of the rows they are all keys
abbrev pub invariant-loop-place : goal.invariant-loop-place
invariant-loop-place g l = l.keys.items ++ keys_from l.setting l.before l.variable l.place (drop l.place l.table.rows) ≡ keys_of l.setting l.before l.variable
