use Rattle.std.proofs.Common.{◌≡◌, List, ap, sym, ◌∙◌}
use Rattle.gc_base.specs.declared.place.Sym.{Sym}
use Rattle.gc_rows.specs.Algebra.{joined_schema}
use Rattle.gc_alg.specs.Matches.{atom_at, with_atom_if}
use Rattle.gc_alg.specs.Plans.{AtomPlan, phys_tree, plan_variables}
use Rattle.gc_alg.specs.Views.{block_tree}
use Rattle.gc_alg.specs.declared.plan.Phys.{Phys}
use Rattle.gc_exec.specs.Runs.{setting_on}
use Rattle.gc_exec.proofs.Outcomes.{if_ok}
use Rattle.gc_exec.proofs.PlanVariables.{both_variables, filter_variables, step_variables, unit_variables}
use Rattle.gc_exec.proofs.Running.{step_tree}
use Rattle.gc_exec.proofs.TreeViews.{filter_tree}
use Rattle.gc_exec.proofs.schemas.+variables_of.Goals as goal

pub returns-in-Unit : goal.returns-in-Unit
returns-in-Unit t c =
    let task = c.args.task.now in
    let s = setting_on task.graphs.now (block_tree task.block.now) task.given.now in
    if_ok _ _ (λ vars e. e ∙ unit_variables s c.args.plan.now c.in-Unit.is) c.bound_by.result c.bound_by.ensures

pub returns-in-Filter : goal.returns-in-Filter
returns-in-Filter t c =
    let task = c.args.task.now in
    let s = setting_on task.graphs.now (block_tree task.block.now) task.given.now in
    let tree = ap phys_tree c.in-Filter.is ∙ filter_tree _ _ _ _ in
    if_ok _ _ (λ vars e. e ∙ (ap (λ (p : Phys). plan_variables s (phys_tree p)) c.deref.ensures ∙ filter_variables s c.args.plan.now _ _ _ _ tree)) c.variables_of.result c.variables_of.ensures

pub returns-in_ok-right-in-Join : goal.returns-in_ok-right-in-Join
returns-in_ok-right-in-Join t c =
    let task = c.args.task.now in
    let s = setting_on task.graphs.now (block_tree task.block.now) task.given.now in
    let vars = λ (p : Phys). plan_variables s (phys_tree p) in
    let left = c.in_ok-left-in-Join.ensures ∙ ap vars c.deref-in-Join.ensures in
    let right = c.as_slice.ensures ∙ (c.in_ok-right-in-Join.ensures ∙ ap vars c.deref-in-Join-2.ensures) in
    let whole = both_variables s c.args.plan.now c.in-Join.left c.in-Join.right c.in-Join.is in
    if_ok _ _ (λ both e. e ∙ (ap (λ (xs : List Sym). joined_schema c.in_ok-left-in-Join.left xs) right
    ∙ (ap (λ (xs : List Sym). joined_schema xs (vars c.in-Join.right.value)) left ∙ whole))) c.joined.result c.joined.ensures

pub returns-in_ok-schema-in-Check : goal.returns-in_ok-schema-in-Check
returns-in_ok-schema-in-Check t c =
    let task = c.args.task.now in
    let s = setting_on task.graphs.now (block_tree task.block.now) task.given.now in
    let below = phys_tree c.deref-in-Check.result.now in
    let whole = step_tree c.args.plan.now c.in-Check.part c.in-Check.atom c.in-Check.below c.in-Check.is in
    let tree : phys_tree c.args.plan.now ≡ AtomPlan c.in-Check.part c.in-Check.atom below = whole ∙ ap (λ (p : Phys). AtomPlan c.in-Check.part c.in-Check.atom (phys_tree p)) (sym c.deref-in-Check.ensures) in
    if_ok _ _ (λ both e. e ∙ (ap (λ (xs : List Sym). with_atom_if xs (atom_at s.block c.in-Check.part c.in-Check.atom)) c.in_ok-schema-in-Check.ensures
    ∙ step_variables s c.args.plan.now c.in-Check.part c.in-Check.atom below tree)) c.with_atom_at.result c.with_atom_at.ensures
