use Rattle.std.proofs.Common.{◌≡◌, ◌≤◌, drop, length}
use Rattle.gc_rows.specs.Arrays.{row_of}
use Rattle.gc_rows.proofs.array_row.row_of.Given as goal

-- the cells from this place on are bound
abbrev pub invariant-loop-at : goal.invariant-loop-at
invariant-loop-at l = record {
  within : l.at ≤ length l.schema;
  row : l.row ≡ row_of (drop l.at l.schema) (drop l.at l.cells);
}

abbrev pub decreases-loop-at : goal.decreases-loop-at
decreases-loop-at l = l.at
