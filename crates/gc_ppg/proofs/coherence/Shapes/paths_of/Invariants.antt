use Rattle.std.proofs.Common.{◌≡◌, map, take}
use Rattle.gc_ppg.specs.Tables.{walk_of}
use Rattle.gc_ppg.proofs.coherence.Shapes.paths_of.Given as goal

-- the walks so far are those of the paths so far
abbrev pub invariant-loop-path : goal.invariant-loop-path
invariant-loop-path l = l.all.items ≡ map walk_of (take l.path-index l.path-items)
