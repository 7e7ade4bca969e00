use Rattle.std.proofs.Common.{◌≡◌, ◌*◌, ◌-◌, take, length}
use Rattle.std.specs.List.{AllByRecursion}
use Rattle.gc_prod.specs.Leading.{pair}
use Rattle.gc_reach.specs.Exploring.{AreFound, IsClosed}
use Rattle.gc_reach.specs.Turning.{before}
use Rattle.gc_reach.proofs.turning.settle_back.Given as goal

abbrev pub invariant-loop-at : goal.invariant-loop-at
invariant-loop-at l = record {
  nodes : l.marks.nodes ≡ l.initial.marks.nodes;
  width : l.marks.width ≡ l.initial.marks.width;
  found : AreFound (before l.marks.nodes l.marks.width l.kept) l.marks.nodes (pair l.fn.node l.fn.state) l.marks.pairs;
  closed : AllByRecursion (IsClosed (before l.marks.nodes l.marks.width l.kept) l.marks.pairs) (take l.i l.marks.pairs);
}

abbrev pub decreases-loop-at : goal.decreases-loop-at
decreases-loop-at l = length l.marks.nodes * l.marks.width - l.i
