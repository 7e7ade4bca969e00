use Rattle.std.proofs.Common.{true, false}
use Rattle.gc_check.specs.Replays.{is_move}
use Rattle.gc_check.proofs.Bundles.{any_on}
use Rattle.gc_check.proofs.replaying.has_move.Goals as goal

pub returns-then-is_among : goal.returns-then-is_among
returns-then-is_among g c =
    any_on c.args.p.now c.args.node c.args.state (is_move c.args.wanted.now c.args.to) c.loop-j.j c.bundle-bundle.result c.bundle-bundle.ensures.exact
    true c.if-is_among.ensures c.loop-j.invariant

pub loop-j-preserved : goal.loop-j-preserved
loop-j-preserved g c =
    any_on c.args.p.now c.args.node c.args.state (is_move c.args.wanted.now c.args.to) c.loop-j.j c.bundle-bundle.result c.bundle-bundle.ensures.exact
    false c.if-is_among.ensures c.loop-j.invariant
