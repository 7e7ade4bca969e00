use Rattle.std.proofs.Common.{◌≡◌}
use Rattle.gc_make.specs.MadeGraphs.{made_of, ring_edge}
use Rattle.gc_make.proofs.making.add_ring.Given as goal

-- the edges so far
abbrev pub invariant-loop-j : goal.invariant-loop-j
invariant-loop-j l = l.builder ≡ made_of l.size (ring_edge l.size) l.j
