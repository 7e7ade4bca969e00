use Rattle.std.proofs.Common.{subst}
use Rattle.gc_rows.specs.Tables.{IsRowOver}
use Rattle.gc_rows.proofs.ArrayLaws.{over_row_of}
use Rattle.gc_rows.proofs.array_row.ArrayRow.schema.Goals as goal

pub returns-clause-valid : goal.returns-clause-valid
returns-clause-valid c = subst (λ q. IsRowOver q.schema q.row) c.self.view_is (over_row_of c.self.inside.schema.now c.self.inside.cells.now)
