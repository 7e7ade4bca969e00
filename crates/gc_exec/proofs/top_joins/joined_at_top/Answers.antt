use Rattle.std.proofs.Common.{◌≡◌, sym, subst}
use Rattle.gc_alg.specs.Plans.{PlanTree, IsRowOfPlan, phys_tree}
use Rattle.gc_alg.specs.Views.{block_tree}
use Rattle.gc_exec.specs.Found.{AreExactly}
use Rattle.gc_exec.specs.Runs.{setting_on}
use Rattle.gc_exec.proofs.PlanSteps.{join_is, outer_is}
use Rattle.gc_exec.proofs.Running.{join_left, join_right, outer_left, outer_right}
use Rattle.gc_exec.proofs.TreeViews.{join_views, outer_views}
use Rattle.gc_exec.proofs.top_joins.joined_at_top.Goals as goal

pub collect_in-requires-clause-runs : goal.collect_in-requires-clause-runs
collect_in-requires-clause-runs g c = join_left (block_tree c.args.task.now.block.now) c.args.plan.now c.deref.result.now c.in-Join.left c.in-Join.right c.in-Join.is c.deref.ensures c.requires.runs

pub collect_in-requires-in-Join-clause-runs : goal.collect_in-requires-in-Join-clause-runs
collect_in-requires-in-Join-clause-runs g c = join_right (block_tree c.args.task.now.block.now) c.args.plan.now c.deref-in-Join.result.now c.in-Join.left c.in-Join.right c.in-Join.is c.deref-in-Join.ensures c.requires.runs

pub collect_in-requires-in-Outer-clause-runs : goal.collect_in-requires-in-Outer-clause-runs
collect_in-requires-in-Outer-clause-runs g c = outer_left (block_tree c.args.task.now.block.now) c.args.plan.now c.deref-in-Outer.result.now c.in-Outer.left c.in-Outer.right c.in-Outer.is c.deref-in-Outer.ensures c.requires.runs

pub collect_in-requires-in-Outer-2-clause-runs : goal.collect_in-requires-in-Outer-2-clause-runs
collect_in-requires-in-Outer-2-clause-runs g c = outer_right (block_tree c.args.task.now.block.now) c.args.plan.now c.deref-in-Outer-2.result.now c.in-Outer.left c.in-Outer.right c.in-Outer.is c.deref-in-Outer-2.ensures c.requires.runs

pub returns-in_ok-joined-in-Join : goal.returns-in_ok-joined-in-Join
returns-in_ok-joined-in-Join g c =
    let task = c.args.task.now in
    let s = setting_on task.graphs.now (block_tree task.block.now) task.given.now in
    let left = c.deref.result.now in
    let right = c.deref-in-Join.result.now in
    let tree = join_views c.args.plan.now left right c.in-Join.left c.in-Join.right c.in-Join.is c.deref.ensures c.deref-in-Join.ensures in
    let whole = c.in_ok-joined-in-Join.field-0 in
    subst (λ (p : PlanTree). AreExactly (IsRowOfPlan s p) whole.rows) (sym tree)
    (join_is task.graphs.now s.block task.given.now (phys_tree left) (phys_tree right) _ _ c.in_ok-left-in-Join.ensures c.in_ok-right-in-Join.ensures whole.rows c.in_ok-joined-in-Join.ensures.exact)

pub returns-in_ok-outer_joined-in-Outer : goal.returns-in_ok-outer_joined-in-Outer
returns-in_ok-outer_joined-in-Outer g c =
    let task = c.args.task.now in
    let s = setting_on task.graphs.now (block_tree task.block.now) task.given.now in
    let left = c.deref-in-Outer.result.now in
    let right = c.deref-in-Outer-2.result.now in
    let tree = outer_views c.args.plan.now left right c.in-Outer.left c.in-Outer.right c.in-Outer.is c.deref-in-Outer.ensures c.deref-in-Outer-2.ensures in
    let whole = c.in_ok-outer_joined-in-Outer.field-0 in
    subst (λ (p : PlanTree). AreExactly (IsRowOfPlan s p) whole.rows) (sym tree)
    (outer_is task.graphs.now s.block task.given.now (phys_tree left) (phys_tree right) _ _ c.in_ok-left-in-Outer.ensures c.in_ok-right-in-Outer.ensures whole.rows c.in_ok-outer_joined-in-Outer.ensures.exact)
