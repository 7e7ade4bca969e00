use Rattle.gc_alg.specs.Plans.{IsRowOfPlan, phys_tree}
use Rattle.gc_alg.specs.Views.{block_tree}
use Rattle.gc_exec.specs.Runs.{setting_on}
use Rattle.gc_exec.proofs.Pulling.{met_told}
use Rattle.gc_exec.proofs.cursor.has_row_over.Goals as goal

pub returns : goal.returns
returns g c =
    let s = setting_on c.args.graphs.now (block_tree c.args.block.now) c.args.given.now in
    met_told (IsRowOfPlan s (phys_tree c.args.plan.now)) _ _ _ _ c.in_ok-pull.field-0 c.is_some.result c.is_some.ensures c.in_ok-cursor.ensures.each c.in_ok-pull.ensures
