use Rattle.std.proofs.Common.{◌≡◌, map, take}
use Rattle.gc_cert_searches.proofs.ends.sources_of.Given as goal

-- the starts so far
abbrev pub invariant-loop-one : goal.invariant-loop-one
invariant-loop-one l = l.nodes.items ≡ map (λ e. e.start) (take l.one-index l.ends)
