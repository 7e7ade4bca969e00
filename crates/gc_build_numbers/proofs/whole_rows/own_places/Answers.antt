use Rattle.std.proofs.Common.{◌+◌, ◌<◌, ◌∷◌, [], Some, length, get_or, refl, arith}
use Rattle.std.proofs.lemmas.Option.{slice_get-get_or}
use Rattle.gc_build_numbers.specs.WholeRows.{own_places}
use Rattle.gc_build_numbers.proofs.RowTurns.{turn}
use Rattle.gc_build_numbers.proofs.whole_rows.own_places.Goals as goal

pub loop-place-preserved : goal.loop-place-preserved
loop-place-preserved c =
    let rows = c.args.rows.now.rows in
    let i = c.loop-place.place in
    let within : i < length rows = omega arith in
    turn (own_places i) (own_places (i + 1)) rows i (get_or rows i []) (Some i ∷ []) c.loop-place.places.items c.push.new.self.items (own_places 0 rows)
    (slice_get-get_or rows i [] within) refl c.in_ok-push.ensures.items c.loop-place.invariant
