use Rattle.std.proofs.Common.{◌≡◌, ◌++◌, drop}
use Rattle.gc_build_numbers.specs.WholeRows.{row_elements}
use Rattle.gc_build_numbers.proofs.whole_rows.row_elements.Given as goal

-- with the elements of the rest of the rows they are all elements
abbrev pub invariant-loop-place : goal.invariant-loop-place
invariant-loop-place l = l.elements.items ++ row_elements l.schema l.number l.place (drop l.place l.rows.rows) ≡ row_elements l.schema l.next 0 l.rows.rows
