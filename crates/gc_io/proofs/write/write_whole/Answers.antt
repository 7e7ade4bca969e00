use Rattle.std.proofs.Common.{arith}
use Rattle.std.proofs.lemmas.Grind.{common_steps}
use Rattle.std.proofs.lemmas.Bool.Decides.{nat_tests}
use Rattle.gc_io.proofs.WriteTurns.{IsWritten-none, IsWritten-more, IsWritten-all, HasRoom-left}
use Rattle.gc_io.proofs.write.write_whole.Goals as goal

pub loop-rest-init : goal.loop-rest-init
loop-rest-init g c = (0, IsWritten-none _ _ _ _)

pub write-requires : goal.write-requires
write-requires g c = HasRoom-left _ _ _ _ _ _ _ _ _ c.loop-rest.invariant.1 c.requires

pub loop-rest-preserved : goal.loop-rest-preserved
loop-rest-preserved g c =
    (_, IsWritten-more c.loop-rest.invariant.0 c.in_ok-count.count _ _ _ _ _ _ _ _ _ _ _ _ c.loop-rest.invariant.1 c.in_ok-count.ensures.count c.in_ok-count.ensures.taken c.in_ok-count.ensures.room c.in_ok-count.ensures.calm (grind (arith, common_steps)))

pub returns-clause-taken : goal.returns-clause-taken
returns-clause-taken g c = (IsWritten-all _ _ _ _ _ _ _ _ _ c.loop-rest.invariant.1 (grind (arith, nat_tests))).0

pub returns-clause-room : goal.returns-clause-room
returns-clause-room g c = (IsWritten-all _ _ _ _ _ _ _ _ _ c.loop-rest.invariant.1 (grind (arith, nat_tests))).1
