use Rattle.std.proofs.Common.{◌≡◌, map, take}
use Rattle.gc_build_descriptions.specs.Aggregates.{aggregated}
use Rattle.gc_build_descriptions.specs.Assigned.{contexts}
use Rattle.gc_build_descriptions.specs.Standing.{plain}
use Rattle.gc_build_descriptions.proofs.assigned.all_aggregated.Given as goal

-- the values of the aggregates so far
abbrev pub invariant-loop-aggregate : goal.invariant-loop-aggregate
invariant-loop-aggregate g l = l.values ≡ map (aggregated (contexts l.setting l.places)) (map plain (take l.aggregate-index l.aggregates))
