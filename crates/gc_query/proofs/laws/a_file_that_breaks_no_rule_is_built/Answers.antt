use Rattle.gc_query.proofs.BuiltFiles.{file_built}
use Rattle.gc_query.proofs.laws.a_file_that_breaks_no_rule_is_built.Goals as goal

pub returns : goal.returns
returns c = file_built
