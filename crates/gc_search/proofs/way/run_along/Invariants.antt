use Rattle.std.proofs.Common.{◌≡◌, ◌++◌, length, reverse}
use Rattle.gc_search.specs.Links.{run_along}
use Rattle.gc_search.proofs.way.run_along.Given as goal

abbrev pub invariant-loop-link : goal.invariant-loop-link
invariant-loop-link l = l.run.items ++ run_along (reverse l.way.items) ≡ run_along (reverse l.initial.way.items)

abbrev pub decreases-loop-link : goal.decreases-loop-link
decreases-loop-link l = length l.way.items
