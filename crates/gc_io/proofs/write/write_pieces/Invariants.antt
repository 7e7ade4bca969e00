use Rattle.std.proofs.Common.{ℕ, drop}
use Rattle.gc_io.specs.Pieces.{joined}
use Rattle.gc_io.proofs.WriteTurns.{IsWritten}
use Rattle.gc_io.proofs.write.write_pieces.Given as goal

-- the pieces up to the next were written, and no fault came
abbrev pub invariant-loop-piece : goal.invariant-loop-piece
invariant-loop-piece g l =
    (n : ℕ) × IsWritten n (g.S.Sink.taken l.fn.sink) (g.S.Sink.taken l.sink) (g.S.Sink.room l.fn.sink) (g.S.Sink.room l.sink) (g.S.Sink.faults l.fn.sink) (g.S.Sink.faults l.sink) (joined l.pieces) (joined (drop l.piece-index l.pieces))
