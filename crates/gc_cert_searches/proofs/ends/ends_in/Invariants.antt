use Rattle.std.proofs.Common.{◌≡◌, take}
use Rattle.gc_cert_searches.specs.Readings.{ends_in}
use Rattle.gc_cert_searches.proofs.ends.ends_in.Given as goal

-- the ends of the walks of the rows so far
abbrev pub invariant-loop-number : goal.invariant-loop-number
invariant-loop-number l = l.ends.items ≡ ends_in l.path (take l.number l.table.rows)
