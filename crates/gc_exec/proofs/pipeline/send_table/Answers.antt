use Rattle.std.proofs.Common.{rules, arith, drop, ◌+◌}
use Rattle.gc_rows.proofs.UniteLaws.{drop_at}
use Rattle.gc_alg.specs.Views.{block_tree}
use Rattle.gc_exec.specs.Runs.{setting_on}
use Rattle.gc_exec.proofs.Sending.{head_sent, past_sent}
use Rattle.gc_exec.proofs.Sinking.{all_sent, full_sent, more_sent, none_sent}
use Rattle.gc_exec.proofs.pipeline.send_table.Goals as goal

pub loop-number-init : goal.loop-number-init
loop-number-init g c = none_sent _ _ c.args.sink.now (λ u. (λ h. h, λ h. h))

pub loop-number-preserved : goal.loop-number-preserved
loop-number-preserved g c =
    let task = c.args.task.now in
    let s = setting_on task.graphs.now (block_tree task.block.now) task.given.now in
    let rows = c.args.table.now.rows in
    more_sent _ _ _ c.args.sink.now _ c.loop-number.sink c.send_view.new.sink c.loop-number.invariant c.in_ok-send_view.ensures
    (head_sent s c.args.stages.now (drop c.loop-number.number rows) (drop (c.loop-number.number + 1) rows) c.row.result (drop_at rows c.loop-number.number c.row.result c.row.ensures))

pub returns-then-is_full : goal.returns-then-is_full
returns-then-is_full g c =
    let task = c.args.task.now in
    let s = setting_on task.graphs.now (block_tree task.block.now) task.given.now in
    let rows = c.args.table.now.rows in
    let sent =
    more_sent _ _ _ c.args.sink.now _ c.loop-number.sink c.send_view.new.sink c.loop-number.invariant c.in_ok-send_view.ensures
    (head_sent s c.args.stages.now (drop c.loop-number.number rows) (drop (c.loop-number.number + 1) rows) c.row.result (drop_at rows c.loop-number.number c.row.result c.row.ensures)) in
    full_sent _ _ c.args.sink.now c.send_view.new.sink sent (search rules)

pub returns : goal.returns
returns g c =
    let task = c.args.task.now in
    let s = setting_on task.graphs.now (block_tree task.block.now) task.given.now in
    all_sent _ _ c.args.sink.now c.loop-number.sink c.loop-number.invariant (past_sent s c.args.stages.now c.args.table.now.rows c.loop-number.number (search (rules, arith)))
