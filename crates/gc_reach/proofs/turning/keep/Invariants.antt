use Rattle.std.proofs.Common.{◌≡◌, ◌+◌, ◌≤◌, ◌++◌, drop, map, take}
use Rattle.gc_reach.specs.Exploring.{work}
use Rattle.gc_reach.specs.Marking.{pair_at}
use Rattle.gc_reach.specs.Turning.{turns}
use Rattle.gc_reach.proofs.turning.keep.Given as goal

abbrev pub invariant-loop-spot : goal.invariant-loop-spot
invariant-loop-spot g l = record {
  rest : l.kept.items ++ turns l.p l.marks.nodes l.marks.width (map (pair_at l.marks.nodes) (drop l.spot-index l.spot-items)) ≡ turns l.p l.marks.nodes l.marks.width (map (pair_at l.marks.nodes) l.spot-items);
  few : l.steps ≤ l.initial.steps + work l.p (map (pair_at l.marks.nodes) (take l.spot-index l.spot-items));
}
