use Rattle.std.proofs.Common.{◌≡◌, ◌+◌, ◌≤◌, drop, get_or, map, length}
use Rattle.std.specs.List.{flat_map}
use Rattle.gc_prod.specs.Leading.{target_of}
use Rattle.gc_prod.specs.Products.{bundles, moves, moves_by}
use Rattle.gc_reach.specs.Exploring.{targets}
use Rattle.gc_reach.specs.Marking.{pair_at, visit_all}
use Rattle.gc_reach.proofs.exploring.expand.Given as goal

abbrev pub invariant-loop-j : goal.invariant-loop-j
invariant-loop-j g l = record {
  nodes : l.marks.nodes ≡ l.initial.marks.nodes;
  width : l.marks.width ≡ l.initial.marks.width;
  rest : visit_all l.marks.pairs (map target_of (flat_map moves_by (drop l.j (bundles l.p (get_or l.initial.marks.nodes l.at.place 0) l.at.state))))
      ≡ visit_all l.initial.marks.pairs (targets l.p (pair_at l.initial.marks.nodes l.at));
  few : l.steps + length (flat_map moves_by (drop l.j (bundles l.p (get_or l.initial.marks.nodes l.at.place 0) l.at.state)))
      ≤ l.initial.steps + length (moves l.p (get_or l.initial.marks.nodes l.at.place 0) l.at.state);
}
