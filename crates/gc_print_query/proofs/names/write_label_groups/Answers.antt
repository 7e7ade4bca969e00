use Rattle.std.proofs.Common.{ap, ◌∙◌, arith, get_or, length}
use Rattle.gc_print_query.specs.QueryPieces.{label_group}
use Rattle.gc_print_query.proofs.WrittenPieces.{flat_turn}
use Rattle.gc_print_query.proofs.names.write_label_groups.Goals as goal

pub loop-group-preserved : goal.loop-group-preserved
loop-group-preserved c =
    let l = c.loop-group in
    let slice = c.as_slice-group-items.ensures in
    flat_turn label_group c.args.groups.now l.group-index c.group-item.result l.text.items _ (omega (arith, ap length slice)) (c.group-item.is ∙ ap (λ gs. get_or gs l.group-index c.group-item.result) slice)
    c.in_ok-write_label_group.ensures
    ∙ l.invariant
