use Rattle.std.proofs.Common.{◌+◌, ◌++◌, ap, refl, ◌∙◌}
use Rattle.gc_build_numbers.proofs.RowTurns.{turn}
use Rattle.gc_build.specs.AllPaths.{span_if, spans_from, spans_of}
use Rattle.gc_build.specs.Walks.{has_walk}
use Rattle.gc_build.proofs.spans.spans_of.Goals as goal

pub loop-place-preserved : goal.loop-place-preserved
loop-place-preserved c =
    let kept = c.args.kept.now in
    let path = c.args.path in
    let i = c.loop-place.place in
    let row = c.row.result in
    let old = c.loop-place.spans.items in
    turn (spans_from kept path i) (spans_from kept path (i + 1)) c.setting.inside.table.now.rows i row
    (span_if path (has_walk kept path i) row) old c.add_row.new.spans.items (spans_of c.args.making.now kept path) c.row.ensures refl
    (c.in_ok-add_row.ensures ∙ ap (λ b. old ++ span_if path b row) c.has_walk-is_kept.ensures) c.loop-place.invariant
