use Rattle.std.proofs.Common.{◌≡◌, take}
use Rattle.gc_rows.specs.Rows.{cells}
use Rattle.gc_build_numbers.proofs.keys.cells.Given as goal

-- what the variables so far stand for
abbrev pub invariant-loop-var : goal.invariant-loop-var
invariant-loop-var l = l.parts ≡ cells (take l.var-index l.schema) l.row
