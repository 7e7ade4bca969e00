use Rattle.std.proofs.Common.{◌≡◌, ◌++◌, replicate}
use Rattle.gc_print_query.proofs.pieces.write_spaces.Given as goal

abbrev pub invariant-loop-i : goal.invariant-loop-i
invariant-loop-i l = l.text.items ≡ l.fn.text.items ++ replicate l.i 32
