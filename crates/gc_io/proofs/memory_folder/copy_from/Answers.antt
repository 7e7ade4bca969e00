use Rattle.gc_io.proofs.ReadPieces.{IsRead-copy}
use Rattle.std.proofs.Common.{arith}
use Rattle.std.proofs.lemmas.Grind.{common_steps}
use Rattle.gc_io.proofs.memory_folder.copy_from.Goals as goal

pub returns-clause-bytes : goal.returns-clause-bytes
returns-clause-bytes c =
    IsRead-copy c.args.bytes.now c.args.into.now c.copy_from_slice.new.self c.args.at c.min-count.result (omega arith) (grind (arith, common_steps)) (grind (arith, common_steps))
