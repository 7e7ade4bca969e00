use Rattle.std.proofs.Common.{◌+◌, ◌∷◌, ◌++◌, [], ap, refl, ◌∙◌}
use Rattle.gc_build_numbers.proofs.RowTurns.{turn}
use Rattle.gc_build.specs.Kept.{keeps, kept_from}
use Rattle.gc_build.proofs.kept.kept_rows.Goals as goal

pub loop-place-preserved : goal.loop-place-preserved
loop-place-preserved g c =
    let m = c.args.making.now in
    let chain = c.args.chain.now in
    let i = c.loop-place.place in
    let row = c.row-row.result in
    let rows = c.setting.inside.table.now.rows in
    turn (kept_from m chain i) (kept_from m chain (i + 1)) rows i row (keeps m chain i row ∷ [])
    c.loop-place.kept.items c.push.new.self.items (kept_from m chain 0 rows) c.row-row.ensures refl
    (c.in_ok-push.ensures.items ∙ ap (λ b. c.loop-place.kept.items ++ b ∷ []) c.in_ok-keeps.ensures) c.loop-place.invariant
