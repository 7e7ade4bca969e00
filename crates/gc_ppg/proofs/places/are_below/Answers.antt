use Rattle.std.proofs.Common.{arith}
use Rattle.gc_ppg.proofs.Runs.{below_before}
use Rattle.gc_ppg.proofs.places.are_below.Goals as goal

pub returns-else-place-eq0 : goal.returns-else-place-eq0
returns-else-place-eq0 c told =
    below_before c.args.entries.now c.args.place c.args.key c.index-entries-place.result c.requires.ascend (omega (arith, c.if-place-eq0.false)) c.requires.within told
