use Rattle.std.proofs.lemmas.Result.{IfOk-weaker}
use Rattle.gc_group.proofs.Gathering.{groups_sorted}
use Rattle.gc_group.proofs.grouping.groups.Goals as goal

pub returns : goal.returns
returns c =
    let held = c.in_ok-keyed_rows.field-0.items in
    let sorted = c.in_ok-sorted.field-0.items in
    IfOk-weaker c.gathered.result _ _ (λ groups h. groups_sorted c.args.keys.now held sorted groups.items c.in_ok-keyed_rows.ensures c.in_ok-sorted.ensures.same c.in_ok-sorted.ensures.stable h) c.gathered.ensures
