use Rattle.std.proofs.Common.{◌≡◌, map, take}
use Rattle.gc_group.proofs.element_rows.listed.Given as goal

-- the numbers of the rows so far
abbrev pub invariant-loop-row : goal.invariant-loop-row
invariant-loop-row g l = l.numbers.items ≡ map (λ r. r.row) (take l.row-index l.rows)
