use Rattle.std.proofs.Common.{◌≡◌, ◌+◌, ◌*◌, ◌-◌, ◌≤◌, take, length}
use Rattle.std.specs.List.{AllByRecursion}
use Rattle.gc_prod.specs.Leading.{pair}
use Rattle.gc_reach.specs.Exploring.{targets, AreFound, IsClosed, work}
use Rattle.gc_reach.proofs.exploring.settle.Given as goal

abbrev pub invariant-loop-at : goal.invariant-loop-at
invariant-loop-at g l = record {
  nodes : l.marks.nodes ≡ l.initial.marks.nodes;
  width : l.marks.width ≡ l.initial.marks.width;
  found : AreFound (targets l.p) l.marks.nodes (pair l.fn.source 0) l.marks.pairs;
  closed : AllByRecursion (IsClosed (targets l.p) l.marks.pairs) (take l.i l.marks.pairs);
  few : l.steps ≤ l.initial.steps + work l.p (take l.i l.marks.pairs);
}

abbrev pub decreases-loop-at : goal.decreases-loop-at
decreases-loop-at g l = length l.marks.nodes * l.marks.width - l.i
