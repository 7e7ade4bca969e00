use Rattle.std.proofs.Common.{◌≡◌, [], fold, map, drop}
use Rattle.gc_base.specs.PropertyLists.{put}
use Rattle.gc_sets.specs.Intersections.{shared}
use Rattle.gc_sets.proofs.common.common_properties.Given as goal

-- those so far with those of the rest are all that are common
abbrev pub invariant-loop-property : goal.invariant-loop-property
invariant-loop-property l = fold put l.kept (map (shared l.others) (drop l.property-index l.property-items)) ≡ fold put [] (map (shared l.others) l.properties)
