use Rattle.gc_alg.specs.Views.{block_tree}
use Rattle.gc_query.proofs.Outcomes.{if_ok}
use Rattle.gc_query.proofs.PlanRuns.{runs}
use Rattle.gc_query.proofs.TablesMade.{table_is}
use Rattle.gc_query.proofs.tables.table_of.Goals as goal

pub run-requires-clause-runs : goal.run-requires-clause-runs
run-requires-clause-runs g c = runs (block_tree c.args.block.now) _ c.in_ok-plan.ensures.over c.requires.searched

pub returns : goal.returns
returns g c =
    if_ok _ _ (λ table t. table_is c.args.graphs.now c.args.segments.now (block_tree c.args.block.now) _ _ table c.in_ok-plan.ensures.means c.empty-given.ensures t) c.run.result c.run.ensures
