use Rattle.std.proofs.Common.{◌≡◌, ◌++◌}
use Rattle.gc_cert_text.proofs.segments.numbered.Given as goal

-- the list has the segments that were handed out, and the others are to come
abbrev pub invariant-loop-segment : goal.invariant-loop-segment
invariant-loop-segment l = l.list ++ l.segment-iterator.rest.items ≡ l.fn.segments.items
