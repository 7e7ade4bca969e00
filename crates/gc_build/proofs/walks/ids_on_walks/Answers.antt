use Rattle.std.proofs.Common.{◌+◌, ◌++◌, drop, ap, ◌∙◌}
use Rattle.std.specs.List.{flat_map}
use Rattle.std.proofs.lemmas.Grind.{flat_map-append}
use Rattle.gc_build_numbers.proofs.RowTurns.{turn}
use Rattle.gc_build.specs.Walks.{has_walk, walk_if, walks_from, walks_of}
use Rattle.gc_build.proofs.walks.ids_on_walks.Goals as goal

pub loop-place-preserved : goal.loop-place-preserved
loop-place-preserved g c =
    let on = g.T.OnWalk.on in
    let m = c.args.making.now in
    let kept = c.args.kept.now in
    let path = c.args.path in
    let i = c.loop-place.place in
    let row = c.row.result in
    let rows = c.setting.inside.table.now.rows in
    let old = c.loop-place.ids.items in
    let walks = walk_if m path (has_walk kept path i) row in
    turn (λ rs. flat_map on (walks_from m kept path i rs)) (λ rs. flat_map on (walks_from m kept path (i + 1) rs)) rows i row
    (flat_map on walks) old c.add_row.new.ids.items (flat_map on (walks_of m kept path)) c.row.ensures
    (flat_map-append on walks (walks_from m kept path (i + 1) (drop (i + 1) rows)))
    (c.in_ok-add_row.ensures ∙ ap (λ b. old ++ flat_map on (walk_if m path b row)) c.has_walk-is_kept.ensures) c.loop-place.invariant
