use Rattle.std.proofs.Common.{◌≡◌, drop}
use Rattle.gcore.specs.Pairs.{names_differ}
use Rattle.gcore.proofs.pair.names_differ.Given as goal

-- the names so far differ from all later ones
abbrev pub invariant-loop-i : goal.invariant-loop-i
invariant-loop-i l = names_differ (drop l.i l.pairs) ≡ names_differ l.pairs
