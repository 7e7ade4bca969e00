use Rattle.std.proofs.Common.{◌<◌, ◌≤◌, take}
use Rattle.std.specs.List.{AllByRecursion}
use Rattle.gc_prod.proofs.product.width_of.Given as goal

abbrev pub invariant-loop-leg : goal.invariant-loop-leg
invariant-loop-leg l = record {
  states : l.states ≤ l.width;
  some : 0 < l.width;
  above : AllByRecursion (λ leg. leg.to < l.width) (take l.leg-index l.legs);
  left : AllByRecursion (λ leg. leg.from < l.width) (take l.leg-index l.legs);
}
