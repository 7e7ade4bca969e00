use Rattle.std.proofs.Common.{rules, ◌≡◌, [], IfOk, None, sym, ap, ◌∙◌, subst}
use Rattle.std.specs.Option.{unwrap_or}
use Rattle.gc_base.specs.Literals.{literal_order}
use Rattle.gc_base.specs.PropertyLists.{values_of}
use Rattle.gc_sets.specs.Descriptions.{united_values}
use Rattle.gc_sets.proofs.Sets.{fold-ascending}
use Rattle.gc_sets.proofs.descriptions.values_with.Goals as goal

pub returns-in-None : goal.returns-in-None
returns-in-None c =
    let more = c.args.more.now.values in
    let none : values_of c.args.properties.now c.args.more.now.name ≡ None = search rules in
    let alone : more ≡ united_values [] more = sym (fold-ascending literal_order more c.as_slice-values.ensures.ascends) in
    subst (λ values. IfOk c.copy-in-None.result (λ copied. copied ≡ values)) (alone ∙ ap (λ o. united_values (unwrap_or o []) more) (sym none)) c.copy-in-None.ensures
