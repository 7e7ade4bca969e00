use Rattle.std.proofs.Common.{◌≡◌, ◌++◌, drop}
use Rattle.gc_build_numbers.specs.WholeRows.{own_places}
use Rattle.gc_build_numbers.proofs.whole_rows.own_places.Given as goal

-- with the places of the rest of the rows they are all places
abbrev pub invariant-loop-place : goal.invariant-loop-place
invariant-loop-place l = l.places.items ++ own_places l.place (drop l.place l.rows.rows) ≡ own_places 0 l.rows.rows
