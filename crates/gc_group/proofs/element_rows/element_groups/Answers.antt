use Rattle.std.proofs.Common.{subst}
use Rattle.std.proofs.lemmas.Result.{IfOk-weaker}
use Rattle.gc_group.specs.Gathered.{AreGathered}
use Rattle.gc_group.proofs.Gathering.{groups_sorted}
use Rattle.gc_group.proofs.element_rows.element_groups.Goals as goal

pub returns : goal.returns
returns g c = λ keys are.
    let sorted = c.in_ok-sorted.field-0.items in
    IfOk-weaker c.gathered.result _ _ (λ groups h. groups_sorted keys c.args.rows.items sorted groups.items are c.in_ok-sorted.ensures.same c.in_ok-sorted.ensures.stable
    (subst (λ rows. AreGathered rows groups.items) c.deref.ensures.value h)) c.gathered.ensures
