use Rattle.std.proofs.Common.{rules, ◌≡◌, [], None, sym, ap, ◌∙◌}
use Rattle.std.specs.Option.{unwrap_or}
use Rattle.gc_base.specs.PropertyLists.{values_of}
use Rattle.gc_sets.specs.Intersections.{common_values}
use Rattle.gc_sets.proofs.CommonParts.{nothing_common}
use Rattle.gc_sets.proofs.common.shared_values.Goals as goal

pub returns-in-None : goal.returns-in-None
returns-in-None c =
    let values = c.args.property.now.values in
    let none : values_of c.args.others.now c.args.property.now.name ≡ None = search rules in
    c.empty.ensures ∙ (sym (nothing_common values) ∙ ap (λ o. common_values values (unwrap_or o [])) (sym none))
