use Rattle.std.proofs.Common.{◌≡◌, ap, sym, ◌∙◌}
use Rattle.gc_alg.specs.Plans.{phys_tree}
use Rattle.gc_alg.specs.declared.plan.Phys.{Phys}
use Rattle.gc_exec.specs.Pipelines.{is_chain}
use Rattle.gc_exec.proofs.PlanVariables.{step_chain, filter_chain, join_chain, outer_chain, unit_chain}
use Rattle.gc_exec.proofs.TreeViews.{filter_tree}
use Rattle.gc_exec.proofs.schemas.+is_chain.Goals as goal

pub returns-in-Unit : goal.returns-in-Unit
returns-in-Unit t c = unit_chain c.args.plan.now c.in-Unit.is

pub returns-in-Check : goal.returns-in-Check
returns-in-Check t c = c.is_chain-in-Check.ensures ∙ (ap (λ (p : Phys). is_chain (phys_tree p)) c.deref-in-Check.ensures ∙ step_chain c.args.plan.now c.in-Check.below c.in-Check.is)

pub returns-in-Filter : goal.returns-in-Filter
returns-in-Filter t c =
    let tree = ap phys_tree c.in-Filter.is ∙ filter_tree _ _ _ _ in
    c.is_chain.ensures ∙ (ap (λ (p : Phys). is_chain (phys_tree p)) c.deref.ensures ∙ filter_chain c.args.plan.now (phys_tree c.in-Filter.below.value) _ _ _ tree)

pub returns-in-Join : goal.returns-in-Join
returns-in-Join t c = join_chain c.args.plan.now _ _ c.in-Join.is

pub returns-in-Outer : goal.returns-in-Outer
returns-in-Outer t c = outer_chain c.args.plan.now _ _ c.in-Outer.is
