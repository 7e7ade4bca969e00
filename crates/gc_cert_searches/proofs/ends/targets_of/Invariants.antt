use Rattle.std.proofs.Common.{◌≡◌, map, take}
use Rattle.gc_cert_searches.proofs.ends.targets_of.Given as goal

-- the last nodes so far
abbrev pub invariant-loop-one : goal.invariant-loop-one
invariant-loop-one l = l.nodes.items ≡ map (λ e. e.target) (take l.one-index l.ends)
