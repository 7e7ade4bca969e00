use Rattle.std.proofs.Common.{subst}
use Rattle.gc_rows.specs.Tables.{AreRowsOver}
use Rattle.gc_rows.proofs.table.Table.rows.Goals as goal

pub returns-clause-valid : goal.returns-clause-valid
returns-clause-valid c = subst (λ t. AreRowsOver t.schema t.rows) c.self.view_is c.self.invariant
