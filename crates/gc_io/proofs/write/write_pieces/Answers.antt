use Rattle.std.proofs.Common.{arith}
use Rattle.std.proofs.lemmas.Result.{err_from_is_err_and}
use Rattle.gc_io.proofs.WriteTurns.{HasRoom-piece, IsWritten-all, IsWritten-piece, TookPrefix-piece, joined-end, joined-next}
use Rattle.gc_io.proofs.write.write_pieces.Goals as goal

pub write_whole-requires : goal.write_whole-requires
write_whole-requires g c =
    HasRoom-piece _ _ _ _ _ _ _ _ _ _ _ c.loop-piece.invariant.1 (joined-next c.args.pieces.now c.loop-piece.piece-index _ (omega arith)) c.requires

pub returns-in_err-write_whole-clause-prefix : goal.returns-in_err-write_whole-clause-prefix
returns-in_err-write_whole-clause-prefix g c =
    let p = err_from_is_err_and c.from_residual.result c.from_residual.ensures.1 in
    rw p.1 (TookPrefix-piece _ _ _ _ _ _ _ _ _ _ _ _ _ c.loop-piece.invariant.1 (joined-next c.args.pieces.now c.loop-piece.piece-index _ (omega arith)) c.in_err-write_whole.ensures.prefix)

pub loop-piece-preserved : goal.loop-piece-preserved
loop-piece-preserved g c =
    (_, IsWritten-piece _ _ _ _ _ _ _ _ _ _ _ _ _ _ c.loop-piece.invariant.1 (joined-next c.args.pieces.now c.loop-piece.piece-index _ (omega arith)) c.in_ok-write_whole.ensures.taken c.in_ok-write_whole.ensures.room c.in_ok-write_whole.ensures.calm)

pub returns-clause-taken : goal.returns-clause-taken
returns-clause-taken g c =
    (IsWritten-all _ _ _ _ _ _ _ _ _ c.loop-piece.invariant.1 (joined-end c.args.pieces.now c.loop-piece.piece-index (omega arith))).0

pub returns-clause-room : goal.returns-clause-room
returns-clause-room g c =
    (IsWritten-all _ _ _ _ _ _ _ _ _ c.loop-piece.invariant.1 (joined-end c.args.pieces.now c.loop-piece.piece-index (omega arith))).1
