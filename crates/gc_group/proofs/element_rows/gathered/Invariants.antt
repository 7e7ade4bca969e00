use Rattle.std.proofs.Common.{◌≡◌, ◌++◌, length}
use Rattle.gc_group.proofs.Gathering.{gathered_list}
use Rattle.gc_group.proofs.element_rows.gathered.Given as goal

-- the groups so far with those of the rows that are left are those of all rows
abbrev pub invariant-loop-first : goal.invariant-loop-first
invariant-loop-first g l = l.groups.items ++ gathered_list l.left ≡ gathered_list l.rows

-- each turn takes a row
abbrev pub decreases-loop-first : goal.decreases-loop-first
decreases-loop-first g l = length l.left
