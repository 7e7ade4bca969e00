use Rattle.std.proofs.Common.{subst, sym}
use Rattle.gc_rows.specs.Tables.{AreRowsOver}
use Rattle.gc_rows.proofs.table.Table.of.Goals as goal

pub invariant_of-result-else-is_ascending : goal.invariant_of-result-else-is_ascending
invariant_of-result-else-is_ascending c = subst (λ s. AreRowsOver s c.in_ok-sorted.field-0.rows) (sym c.in_ok-sorted.ensures.over) c.in_ok-sorted.ensures.rows
