use Rattle.std.proofs.Common.{◌≡◌, ◌++◌, drop}
use Rattle.gcore.specs.Outcomes.{graph_names}
use Rattle.gcore.proofs.pair.names_of.Given as goal

-- the names so far, with those of the rest
abbrev pub invariant-loop-pair : goal.invariant-loop-pair
invariant-loop-pair l = l.names ++ graph_names (drop l.pair-index l.pairs) ≡ graph_names l.pairs
