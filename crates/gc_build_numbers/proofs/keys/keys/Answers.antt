use Rattle.std.proofs.Common.{◌+◌, ◌∷◌, ◌++◌, [], ap, refl, ◌∙◌}
use Rattle.gc_build_numbers.specs.Keys.{key_by, keys_from, keys_of}
use Rattle.gc_build_numbers.proofs.RowTurns.{turn}
use Rattle.gc_build_numbers.proofs.keys.keys.Goals as goal

pub loop-place-preserved : goal.loop-place-preserved
loop-place-preserved g c =
    let s = c.args.setting.now in
    let before = c.args.before.now in
    let v = c.args.variable.now in
    let i = c.loop-place.place in
    let row = c.row-row.result in
    let key = key_by s before v.var v.kind v.grouping i row in
    turn (keys_from s before v i) (keys_from s before v (i + 1)) c.setting.inside.table.now.rows i row (key ∷ []) c.loop-place.keys.items
    c.push.new.self.items (keys_of s before v) c.row-row.ensures refl
    (c.in_ok-push.ensures.items ∙ ap (λ k. c.loop-place.keys.items ++ k ∷ []) c.in_ok-key.ensures) c.loop-place.invariant
