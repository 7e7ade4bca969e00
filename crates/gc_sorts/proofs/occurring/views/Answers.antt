use Rattle.gc_expr.specs.Views.{name_of}
use Rattle.gc_sorts.proofs.Readings.{view_step}
use Rattle.gc_sorts.proofs.occurring.views.Goals as goal

pub loop-view-preserved : goal.loop-view-preserved
loop-view-preserved c =
    view_step (name_of c.args.sight.now.names) c.args.sight.now.at c.as_slice-view-items.result.now c.loop-view.view-index _
    c.loop-view-test.true c.loop-view.found c.view.new.self _ c.in_ok-view.ensures c.loop-view.invariant
