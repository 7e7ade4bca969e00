use Rattle.std.proofs.Common.{drop}
use Rattle.gc_alg.specs.Views.{block_tree}
use Rattle.gc_exec.specs.Pipelines.{IsSentOf}
use Rattle.gc_exec.specs.Runs.{setting_on}
use Rattle.gc_exec.proofs.Sinking.{HaveSunk}
use Rattle.gc_exec.proofs.pipeline.send_table.Given as goal

-- what rows sent so far, and what the rest still sends
abbrev pub invariant-loop-number : goal.invariant-loop-number
invariant-loop-number g l =
    let s = setting_on l.task.graphs.now (block_tree l.task.block.now) l.task.given.now in
    HaveSunk (IsSentOf s l.stages l.table.rows) (IsSentOf s l.stages (drop l.number l.table.rows)) l.initial.sink l.sink
