use Rattle.std.proofs.Common.{◌≡◌, ◌++◌, map, take}
use Rattle.gc_alg.specs.Networks.{under}
use Rattle.gc_walks.proofs.machine.add_named.Given as goal

-- the segments so far, behind those before
abbrev pub invariant-loop-one : goal.invariant-loop-one
invariant-loop-one l = l.segments ≡ l.initial.segments ++ map (under l.name) (take l.one-index l.known)
