use Rattle.std.proofs.Common.{ℕ, length}
use Rattle.gc_io.proofs.WriteTurns.{IsWritten}
use Rattle.gc_io.proofs.write.write_whole.Given as goal

-- some first bytes were written, and no fault came
abbrev pub invariant-loop-rest : goal.invariant-loop-rest
invariant-loop-rest g l =
    (n : ℕ) × IsWritten n (g.S.Sink.taken l.fn.sink) (g.S.Sink.taken l.sink) (g.S.Sink.room l.fn.sink) (g.S.Sink.room l.sink) (g.S.Sink.faults l.fn.sink) (g.S.Sink.faults l.sink) l.fn.bytes l.rest

-- each turn writes a byte
abbrev pub decreases-loop-rest : goal.decreases-loop-rest
decreases-loop-rest g l = length l.rest
