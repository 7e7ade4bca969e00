use Rattle.std.proofs.Common.{◌≡◌, take}
use Rattle.gc_build_reading.specs.Indexes.{AreSeen}
use Rattle.gc_build_reading.specs.Variables.{first_places}
use Rattle.gc_build_reading.proofs.placing.first_places.Given as goal

abbrev pub invariant-loop-place : goal.invariant-loop-place
invariant-loop-place l = record {
  firsts : l.firsts.items ≡ first_places (take l.place-index l.places);
  seen : AreSeen l.seen l.firsts.items;
}
