use Rattle.std.proofs.Common.{◌+◌, ◌++◌, ◌∙◌, ap, map, arith, List}
use Rattle.gc_prod.specs.Products.{bundles}
use Rattle.gc_reach.specs.declared.turning.Turn.{Turn}
use Rattle.gc_reach.specs.Turning.{turn}
use Rattle.gc_reach.proofs.BundleSteps.{moves_from, moves_left, kept_left}
use Rattle.gc_reach.proofs.turning.keep_pair.Goals as goal

pub returns-in_err-keep_bundle-clause-few : goal.returns-in_err-keep_bundle-clause-few
returns-in_err-keep_bundle-clause-few g c =
    let bs = bundles c.args.p.now c.args.from.now.node c.args.from.now.state in
    omega (arith, c.loop-j.invariant.few, c.bundle-bundle.ensures.step, moves_left bs c.loop-j.j c.bundle-bundle.result c.bundle-bundle.ensures.exact)

pub loop-j-preserved : goal.loop-j-preserved
loop-j-preserved g c =
    let from = c.args.from.now in
    let bs = bundles c.args.p.now from.node from.state in
    let b = c.bundle-bundle.result in
    let at = c.bundle-bundle.ensures.exact in
    let f = turn c.args.marks.now.nodes c.args.marks.now.width from in
    record {
      rest =
          ap (λ (l : List Turn). l ++ map f (moves_from bs (c.loop-j.j + 1))) c.in_ok-keep_bundle.ensures
          ∙ kept_left bs c.loop-j.j b at f c.loop-j.kept.items _ c.loop-j.invariant.rest;
      few = omega (arith, c.loop-j.invariant.few, c.bundle-bundle.ensures.step, moves_left bs c.loop-j.j b at);
    }
