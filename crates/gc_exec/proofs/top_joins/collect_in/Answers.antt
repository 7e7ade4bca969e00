use Rattle.std.proofs.Common.{◌≡◌, true, List, sym, ap, ◌∙◌, subst}
use Rattle.std.specs.List.{filter}
use Rattle.gc_base.specs.declared.place.Sym.{Sym}
use Rattle.gc_rows.specs.Arrays.{is_distinct}
use Rattle.gc_rows.specs.Rows.{lists}
use Rattle.gc_alg.specs.Plans.{phys_tree, plan_variables}
use Rattle.gc_alg.specs.Tables.{table_schema}
use Rattle.gc_alg.specs.Views.{block_tree}
use Rattle.gc_exec.specs.Runs.{setting_on}
use Rattle.gc_exec.proofs.Ordered.{all_in_order, kept_distinct}
use Rattle.gc_exec.proofs.Outcomes.{if_ok}
use Rattle.gc_exec.proofs.top_joins.collect_in.Goals as goal

pub new-empty-requires : goal.new-empty-requires
new-empty-requires g c =
    let order = c.as_slice-2.result.now in
    let distinct = subst (λ (xs : List Sym). is_distinct xs ≡ true) (sym c.as_slice-2.ensures) c.requires.distinct in
    subst (λ (xs : List Sym). is_distinct xs ≡ true) (sym c.in_ok-schema.ensures) (kept_distinct (λ x. lists c.as_slice.result.now x) order distinct)

pub returns : goal.returns
returns g c =
    let task = c.args.task.now in
    let s = setting_on task.graphs.now (block_tree task.block.now) task.given.now in
    let p = phys_tree c.args.plan.now in
    let vars = c.as_slice.ensures ∙ c.in_ok-vars.ensures in
    let order = c.as_slice-2.ensures ∙ c.requires.order in
    let schema : c.in_ok-schema.schema ≡ filter (λ x. lists (plan_variables s p) x) (table_schema s) =
    c.in_ok-schema.ensures ∙ (ap (λ (xs : List Sym). filter (λ x. lists xs x) c.as_slice-2.result.now) vars ∙ ap (filter (λ x. lists (plan_variables s p) x)) order) in
    if_ok _ _ (λ found h. all_in_order s c.know.ensures p c.in_ok-schema.schema c.new-empty.result found schema c.new-empty.ensures h) c.pour_into.result c.pour_into.ensures
