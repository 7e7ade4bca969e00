use Rattle.std.proofs.Common.{◌≡◌, drop}
use Rattle.gc_rows.specs.Arrays.{cell_at}
use Rattle.gc_rows.proofs.array_row.cell_of.Given as goal

-- the rest decides as the whole does
abbrev pub invariant-loop-slot : goal.invariant-loop-slot
invariant-loop-slot l = cell_at (drop l.slot l.schema) (drop l.slot l.cells) l.var ≡ cell_at l.schema l.cells l.var
