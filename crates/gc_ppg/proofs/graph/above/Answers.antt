use Rattle.std.proofs.Common.{◌≤◌, length, map, ap, sym, ◌∙◌, subst, arith}
use Rattle.std.proofs.Math.ListN.{drop_of_length-le}
use Rattle.gc_ppg.specs.FreeIds.{IsLeastAbove}
use Rattle.gc_ppg.proofs.FreeIds.{above, above_is_least}
use Rattle.gc_ppg.proofs.graph.above.Goals as goal

pub returns : goal.returns
returns g c =
    let elements = c.args.elements.now in
    let ids = map g.T.Element.id_of in
    let passed : length elements ≤ c.loop-element.element-index = omega (arith, c.loop-element-test.false, c.loop-element.auto.element-index-end) in
    let same = ap (λ rest. above c.loop-element.free (ids rest)) (sym (drop_of_length-le elements passed)) ∙ c.loop-element.invariant in
    subst (IsLeastAbove c.args.start (ids elements)) (sym same) (above_is_least c.args.start (ids elements))
