use Rattle.std.proofs.Common.{rules, arith, refl}
use Rattle.gc_alg.specs.Views.{block_tree}
use Rattle.gc_exec.specs.Runs.{setting_on}
use Rattle.gc_exec.proofs.Outcomes.{on_ok}
use Rattle.gc_exec.proofs.Sending.{unchanged}
use Rattle.gc_exec.proofs.Stepping.{empty_list}
use Rattle.gc_exec.proofs.pipeline.send_view.Goals as goal

pub returns-then-is_empty : goal.returns-then-is_empty
returns-then-is_empty g c =
    let task = c.args.task.now in
    let s = setting_on task.graphs.now (block_tree task.block.now) task.given.now in
    on_ok _ _ (λ h. unchanged s c.args.stages.now c.args.row.now c.args.row.now c.args.sink.now c.put.new.self (empty_list c.args.stages.now (search (rules, arith))) refl h) c.put.result c.put.ensures
