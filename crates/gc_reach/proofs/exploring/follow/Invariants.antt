use Rattle.std.proofs.Common.{◌≡◌, drop, get_or, map}
use Rattle.gc_prod.specs.Leading.{pair}
use Rattle.gc_reach.specs.Exploring.{landed}
use Rattle.gc_reach.specs.Marking.{visit_all}
use Rattle.gc_reach.proofs.exploring.follow.Given as goal

abbrev pub invariant-loop-place : goal.invariant-loop-place
invariant-loop-place l = record {
  nodes : l.marks.nodes ≡ l.initial.marks.nodes;
  width : l.marks.width ≡ l.initial.marks.width;
  rest : visit_all l.marks.pairs (map (λ p. pair (get_or l.initial.marks.nodes p 0) l.landing.state) (drop l.place-index l.landing.places))
      ≡ visit_all l.initial.marks.pairs (landed l.initial.marks.nodes l.landing);
}
