use Rattle.std.proofs.Common.{arith}
use Rattle.gc_ppg.proofs.Runs.{above_from}
use Rattle.gc_ppg.proofs.places.are_from.Goals as goal

pub returns-else-place-entries : goal.returns-else-place-entries
returns-else-place-entries c told =
    above_from c.args.entries.now c.args.place c.args.key c.index-entries-place.result c.requires.ascend (omega (arith, c.if-place-entries.false, c.requires.within)) told
