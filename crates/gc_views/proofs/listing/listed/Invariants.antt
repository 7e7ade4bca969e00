use Rattle.std.proofs.Common.{◌≡◌, Some, map, take}
use Rattle.gc_views.specs.Namings.{view_of}
use Rattle.gc_views.specs.Segments.{segment_of, walking}
use Rattle.gc_views.proofs.listing.listed.Given as goal

-- the segments so far are those of the rows so far that have a walk
abbrev pub invariant-loop-number : goal.invariant-loop-number
invariant-loop-number g l = map (segment_of (view_of l.view)) (walking (view_of l.view) (take l.number l.table.rows)) ≡ map Some l.found
