use Rattle.std.proofs.Common.{◌≡◌, ◌+◌, ◌≤◌, ◌++◌, drop}
use Rattle.gc_prod.specs.SymbolHops.{by_segments}
use Rattle.gc_prod.proofs.hop_lists.segment_hops.Given as goal

abbrev pub invariant-loop-i : goal.invariant-loop-i
invariant-loop-i g l = record {
  exact : l.found.items ++ by_segments l.view l.i (drop l.i l.segments) ≡ by_segments l.view 0 l.segments;
  few : l.steps ≤ l.initial.steps + l.i;
}
