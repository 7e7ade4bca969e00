use Rattle.gc_print.proofs.ExpressionsReadBack.{reads_back}
use Rattle.gc_print.proofs.laws.printed_expressions_read_back.Goals as goal

pub returns : goal.returns
returns c = reads_back
