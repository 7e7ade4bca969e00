use Rattle.std.proofs.Common.{◌≡◌, drop, map}
use Rattle.gc_reach.specs.Marking.{visit_all}
use Rattle.gc_reach.proofs.turning.go_back.Given as goal

abbrev pub invariant-loop-turn : goal.invariant-loop-turn
invariant-loop-turn l = record {
  nodes : l.marks.nodes ≡ l.initial.marks.nodes;
  width : l.marks.width ≡ l.initial.marks.width;
  rest : visit_all l.marks.pairs (map (λ t. t.from) (drop l.turn-index l.kept)) ≡ visit_all l.initial.marks.pairs (map (λ t. t.from) l.kept);
}
