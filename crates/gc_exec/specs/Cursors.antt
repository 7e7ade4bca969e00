-- The rows that are still to come where a task runs a plan.
use Rattle.std.specs.Prelude.{ℕ, List}
use Rattle.gc_rows.specs.declared.row.Binding.{Binding}
use Rattle.gc_alg.specs.Matches.{Setting}
use Rattle.gc_alg.specs.Plans.{phys_tree}
use Rattle.gc_alg.specs.Views.{block_tree}
use Rattle.gc_alg.specs.declared.plan.Phys.{Phys}
use Rattle.gc_exec.specs.Runs.{setting_on}
use Rattle.gc_exec.specs.States.{IsToCome, left}
use Rattle.gc_exec.specs.declared.state.State.{State}
use Rattle.gc_exec.specs.declared.task.Task.{Task}

-- what a task reads its plan in
abbrev pub setting_of : Task → Setting
setting_of task = setting_on task.graphs.now (block_tree task.block.now) task.given.now

-- a row is still to come in a state of a plan
abbrev pub IsAhead : Task → Phys → State → List Binding → Type 0
IsAhead task plan state = IsToCome (setting_of task) (phys_tree plan) state

-- how much is left to be done
abbrev pub ahead : Task → Phys → State → ℕ
ahead task plan state = left (setting_of task) (phys_tree plan) state
