use Rattle.std.proofs.Common.{◌≡◌, ◌++◌, drop, map}
use Rattle.gc_reach.specs.Marking.{pair_at}
use Rattle.gc_reach.specs.Turning.{steps_into}
use Rattle.gc_reach.proofs.passing.passed_steps.Given as goal

abbrev pub invariant-loop-spot : goal.invariant-loop-spot
invariant-loop-spot l =
    l.passed.items ++ steps_into l.p l.marks.nodes l.marks.width l.kept (map (pair_at l.marks.nodes) (drop l.spot-index l.spot-items))
    ≡ steps_into l.p l.marks.nodes l.marks.width l.kept (map (pair_at l.marks.nodes) l.spot-items)
