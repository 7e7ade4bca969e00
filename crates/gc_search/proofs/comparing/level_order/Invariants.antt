use Rattle.std.proofs.Common.{◌≡◌}
use Rattle.gc_search.specs.Tails.{IsLevel, compared_order, way_back}
use Rattle.gc_search.proofs.comparing.level_order.Given as goal

abbrev pub invariant-loop-compared : goal.invariant-loop-compared
invariant-loop-compared l = record {
  level : IsLevel l.tree.setting l.tree.walks l.compared.one l.compared.other;
  order : compared_order l.tree.setting l.tree.walks l.compared ≡ compared_order l.tree.setting l.tree.walks l.initial.compared;
}

abbrev pub decreases-loop-compared : goal.decreases-loop-compared
decreases-loop-compared l = way_back l.tree.setting l.tree.walks l.compared
