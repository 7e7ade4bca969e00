use Rattle.std.proofs.Common.{◌∙◌, subst}
use Rattle.std.proofs.lemmas.Result.{IfOk-weaker}
use Rattle.gc_group.specs.Groups.{AreGroupsOf}
use Rattle.gc_build_numbers.specs.Keys.{keys_of}
use Rattle.gc_build_numbers.proofs.GroupsOf.{are_groups_of}
use Rattle.gc_build_numbers.proofs.numbering.groups_of.Goals as goal

pub returns-in_ok-element_rows-clause-groups : goal.returns-in_ok-element_rows-clause-groups
returns-in_ok-element_rows-clause-groups g c =
    let keys = keys_of c.args.setting.now c.args.before.now c.args.variable.now in
    IfOk-weaker c.element_groups.result _ _ (λ gs h. are_groups_of keys gs.items h) (c.element_groups.ensures keys c.in_ok-element_rows.ensures)

pub returns-in_ok-keys-clause-groups : goal.returns-in_ok-keys-clause-groups
returns-in_ok-keys-clause-groups g c =
    let keys = keys_of c.args.setting.now c.args.before.now c.args.variable.now in
    IfOk-weaker c.groups.result _ _ (λ gs h. are_groups_of keys gs.items (subst (λ ks. AreGroupsOf ks gs.items) (c.deref.ensures.value ∙ c.in_ok-keys.ensures) h)) c.groups.ensures

pub returns-in_ok-element_rows-2-clause-groups : goal.returns-in_ok-element_rows-2-clause-groups
returns-in_ok-element_rows-2-clause-groups g c =
    let keys = keys_of c.args.setting.now c.args.before.now c.args.variable.now in
    IfOk-weaker c.element_groups-then-is_by_node.result _ _ (λ gs h. are_groups_of keys gs.items h) (c.element_groups-then-is_by_node.ensures keys c.in_ok-element_rows-2.ensures)

pub returns-in_ok-element_rows-3-clause-groups : goal.returns-in_ok-element_rows-3-clause-groups
returns-in_ok-element_rows-3-clause-groups g c =
    let keys = keys_of c.args.setting.now c.args.before.now c.args.variable.now in
    IfOk-weaker c.element_groups-then-is_bound.result _ _ (λ gs h. are_groups_of keys gs.items h) (c.element_groups-then-is_bound.ensures keys c.in_ok-element_rows-3.ensures)
