use Rattle.gc_io.proofs.ReadPieces.{ReadsPiece-at}
use Rattle.std.proofs.Common.{arith, refl}
use Rattle.std.proofs.lemmas.Grind.{common_steps}
use Rattle.gc_io.proofs.read.read_piece.Goals as goal

pub returns-clause-outcome : goal.returns-clause-outcome
returns-clause-outcome g c =
    ReadsPiece-at _ _ _ _ _ _ c.read_behind.new.bytes c.len-start.result c.in_ok-count.count _ (search c.requires) (grind (arith, common_steps)) (grind (arith, common_steps)) (grind (arith, common_steps)) (grind (arith, common_steps)) (grind (arith, common_steps)) c.in_ok-count.ensures.bytes c.in_ok-count.ensures.calm refl
