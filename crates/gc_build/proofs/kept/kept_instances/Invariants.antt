use Rattle.std.proofs.Common.{◌≡◌, ◌++◌, drop, map}
use Rattle.gc_build.specs.Kept.{kept_of}
use Rattle.gc_build.proofs.kept.kept_instances.Given as goal

-- the chains so far, before those of the rest
abbrev pub invariant-loop-chain : goal.invariant-loop-chain
invariant-loop-chain g l = l.kept.items ++ map (kept_of l.making) (drop l.chain-index l.chains) ≡ map (kept_of l.making) l.chains
