use Rattle.gc_cert.specs.Acceptance.{is_covered, is_bounded}
use Rattle.gc_check.proofs.Bundles.{all_on}
use Rattle.gc_check.proofs.leading.led_from.Goals as goal

pub loop-j-preserved : goal.loop-j-preserved
loop-j-preserved g c = record {
  covers =
      all_on c.args.p.now c.args.from.now.node c.args.from.now.state (is_covered c.args.potentials.now c.args.from.now) c.loop-j.j c.bundle-bundle.result
      c.bundle-bundle.ensures.exact c.loop-j.covered c.led_by-led.result.covered c.led_by-led.ensures.covered c.loop-j.invariant.covers;
  bounds =
      all_on c.args.p.now c.args.from.now.node c.args.from.now.state (is_bounded c.args.potentials.now c.args.from.now) c.loop-j.j c.bundle-bundle.result
      c.bundle-bundle.ensures.exact c.loop-j.bounded c.led_by-led.result.bounded c.led_by-led.ensures.bounded c.loop-j.invariant.bounds;
}
