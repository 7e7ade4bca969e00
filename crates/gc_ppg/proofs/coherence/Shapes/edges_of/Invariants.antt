use Rattle.std.proofs.Common.{◌≡◌, map, take}
use Rattle.gc_ppg.specs.Tables.{ends_of}
use Rattle.gc_ppg.proofs.coherence.Shapes.edges_of.Given as goal

-- the ends so far are those of the edges so far
abbrev pub invariant-loop-edge : goal.invariant-loop-edge
invariant-loop-edge l = l.all.items ≡ map ends_of (take l.edge-index l.edge-items)
