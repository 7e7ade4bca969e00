use Rattle.std.proofs.Common.{◌≡◌, ◌+◌, ◌≤◌, ◌++◌, drop, map, length}
use Rattle.std.specs.List.{flat_map}
use Rattle.gc_prod.specs.Products.{bundles, moves, moves_by}
use Rattle.gc_reach.specs.Turning.{turn, turns_of}
use Rattle.gc_reach.proofs.turning.keep_pair.Given as goal

abbrev pub invariant-loop-j : goal.invariant-loop-j
invariant-loop-j g l = record {
  rest : l.kept.items ++ map (turn l.marks.nodes l.marks.width l.from) (flat_map moves_by (drop l.j (bundles l.p l.from.node l.from.state)))
      ≡ l.initial.kept.items ++ turns_of l.p l.marks.nodes l.marks.width l.from;
  few : l.steps + length (flat_map moves_by (drop l.j (bundles l.p l.from.node l.from.state))) ≤ l.initial.steps + length (moves l.p l.from.node l.from.state);
}
