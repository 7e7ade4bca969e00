use Rattle.gc_rows.proofs.RestrictLaws.{pushed_more}
use Rattle.gc_rows.proofs.UniteLaws.{take_at}
use Rattle.gc_rows.proofs.projection.push_restricted.Goals as goal

pub loop-i-preserved : goal.loop-i-preserved
loop-i-preserved c =
    pushed_more c.args.out.now c.loop-i.out _ _ _ _ c.loop-i.invariant c.in_ok-push.ensures.ok
    (take_at c.args.rows.now.rows c.loop-i.i c.row.result c.row.ensures)
