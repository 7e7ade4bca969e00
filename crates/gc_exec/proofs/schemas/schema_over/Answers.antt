use Rattle.std.proofs.Common.{◌≡◌, List, sym, subst, ◌∙◌}
use Rattle.gc_base.specs.declared.place.Sym.{Sym}
use Rattle.gc_alg.specs.Plans.{phys_tree}
use Rattle.gc_alg.specs.Views.{block_tree}
use Rattle.gc_exec.specs.Pipelines.{IsEnough}
use Rattle.gc_exec.specs.Runs.{setting_on}
use Rattle.gc_exec.proofs.Enough.{all_enough, chain_enough}
use Rattle.gc_exec.proofs.Outcomes.{if_ok}
use Rattle.gc_exec.proofs.schemas.schema_over.Goals as goal

pub returns-then-is_chain : goal.returns-then-is_chain
returns-then-is_chain c =
    let task = c.args.task.now in
    let s = setting_on task.graphs.now (block_tree task.block.now) task.given.now in
    let p = phys_tree c.args.plan.now in
    let none = c.from_vec.ensures ∙ c.new.ensures.items in
    subst (λ (xs : List Sym). IsEnough s p xs) (sym none) (chain_enough s c.know.ensures p (sym c.is_chain.ensures ∙ c.if-is_chain.true))

pub returns-else-is_chain : goal.returns-else-is_chain
returns-else-is_chain c =
    let task = c.args.task.now in
    let s = setting_on task.graphs.now (block_tree task.block.now) task.given.now in
    if_ok _ _ (λ vars e. all_enough s (phys_tree c.args.plan.now) vars e) c.variables_of.result c.variables_of.ensures
