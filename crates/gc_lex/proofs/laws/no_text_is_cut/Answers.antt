use Rattle.std.proofs.Common.{arith, length}
use Rattle.gc_lex.proofs.Enough.{enough}
use Rattle.gc_lex.proofs.laws.no_text_is_cut.Goals as goal

pub returns : goal.returns
returns c = λ text items more. enough items (length text) text 0 (omega arith) (omega arith)
