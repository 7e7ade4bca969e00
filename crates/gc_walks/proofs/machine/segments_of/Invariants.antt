use Rattle.std.proofs.Common.{◌≡◌, take}
use Rattle.gc_walks.specs.Databases.{used_segments}
use Rattle.gc_walks.proofs.machine.segments_of.Given as goal

-- the segments of the views so far
abbrev pub invariant-loop-used : goal.invariant-loop-used
invariant-loop-used l = l.segments ≡ used_segments l.table l.graph (take l.used-index l.views)
