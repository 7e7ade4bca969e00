use Rattle.std.proofs.Common.{subst}
use Rattle.gc_rows.specs.Tables.{AreRowsOver}
use Rattle.gc_build_numbers.specs.Settings.{Setting}
use Rattle.gc_build_numbers.proofs.whole_rows.rows_of.Goals as goal

pub returns-clause-valid : goal.returns-clause-valid
returns-clause-valid c = subst (λ (s : Setting). AreRowsOver s.schema s.rows) c.setting.view_is c.rows.ensures.valid
