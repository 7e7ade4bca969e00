use Rattle.std.proofs.Common.{arith, ap, ◌∙◌, length}
use Rattle.gc_automata.proofs.Counts.{counted_all}
use Rattle.gc_automata.proofs.counting.+counting.Goals as goal

pub count_all-returns : goal.count_all-returns
count_all-returns t c =
    counted_all c.loop-part.all c.loop-part.part-index c.args.parts.now.items _ (omega (arith, c.loop-part-test.false, ap length c.deref-part-items.ensures.value)) c.loop-part.invariant.most c.loop-part.invariant.whole
