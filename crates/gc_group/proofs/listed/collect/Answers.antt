use Rattle.std.proofs.Common.{◌≡◌, IfOk, ap, ◌∙◌, subst}
use Rattle.gc_group.specs.Folds.{all_literals, collected}
use Rattle.gc_group.proofs.CollectLaws.{collected_same}
use Rattle.gc_group.proofs.listed.collect.Goals as goal

pub returns : goal.returns
returns c =
    let same : collected c.deref.result.now ≡ collected (all_literals c.args.values.now) =
    ap collected c.deref.ensures.value ∙ (collected_same c.in_ok-all_listed.field-0.items c.in_ok-ascending.field-0.items c.in_ok-ascending.ensures ∙ ap collected c.in_ok-all_listed.ensures) in
    subst (λ xs. IfOk c.set_of.result (λ set. set ≡ xs)) same c.set_of.ensures
