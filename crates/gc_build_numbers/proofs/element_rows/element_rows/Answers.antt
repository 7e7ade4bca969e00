use Rattle.std.proofs.Common.{◌+◌, ◌∷◌, ◌++◌, [], drop, ap, ◌∙◌}
use Rattle.gc_group.specs.Gathered.{keyed_from, keyed_rows}
use Rattle.gc_build_numbers.specs.Keys.{key_by, keys_from, keys_of}
use Rattle.gc_build_numbers.proofs.KeysLaws.{keyed_next}
use Rattle.gc_build_numbers.proofs.RowTurns.{turn}
use Rattle.gc_build_numbers.proofs.element_rows.element_rows.Goals as goal

pub loop-place-preserved : goal.loop-place-preserved
loop-place-preserved g c =
    let s = c.args.setting.now in
    let before = c.args.before.now in
    let v = c.args.variable.now in
    let rows = c.setting.inside.table.now.rows in
    let i = c.loop-place.place in
    let row = c.row.result in
    let key = key_by s before v.var v.kind v.grouping i row in
    turn (λ rest. keyed_from i (keys_from s before v i rest)) (λ rest. keyed_from (i + 1) (keys_from s before v (i + 1) rest)) rows i row
    (keyed_from i (key ∷ [])) c.loop-place.rows.items c.add_row.new.rows.items (keyed_rows (keys_of s before v)) c.row.ensures
    (keyed_next i key (keys_from s before v (i + 1) (drop (i + 1) rows)))
    (c.in_ok-add_row.ensures ∙ ap (λ k. c.loop-place.rows.items ++ keyed_from i (k ∷ [])) (c.in_ok-key.ensures s before c.ends_of-ends.ensures))
    c.loop-place.invariant
