use Rattle.std.proofs.Common.{◌≡◌, ◌++◌}
use Rattle.gc_views.proofs.order.numbered.Given as goal

-- the segments so far and the rest are all
abbrev pub invariant-loop-segment : goal.invariant-loop-segment
invariant-loop-segment l = l.list ++ l.segment-iterator.rest.items ≡ l.fn.segments.items
