use Rattle.std.proofs.Common.{◌≡◌, map, sym, ap, ◌∙◌, subst}
use Rattle.gc_group.specs.Groups.{AreGroupsOf}
use Rattle.gc_build_numbers.proofs.GroupsOf.{element_groups}
use Rattle.gc_build_numbers.specs.declared.numbered.Element.{Element}
use Rattle.gc_build_numbers.proofs.numbering.numbered_by.Goals as goal

pub which-requires : goal.which-requires
which-requires g c =
    let same : map (λ (e : Element). e.group) c.deref.result.now ≡ c.args.groups.items =
    ap (map (λ (e : Element). e.group)) (c.deref.ensures.value ∙ c.in_ok-elements.ensures) ∙ element_groups c.args.variable.now.grouping c.args.next c.args.groups.items in
    (c.requires.0, subst (AreGroupsOf g.keys) (sym same) c.requires.1)
