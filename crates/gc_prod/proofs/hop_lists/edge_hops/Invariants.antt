use Rattle.std.proofs.Common.{◌≡◌, ◌+◌, ◌≤◌, ◌++◌, Some, drop}
use Rattle.gc_prod.specs.SymbolHops.{along_edges}
use Rattle.gc_prod.proofs.hop_lists.edge_hops.Given as goal

abbrev pub invariant-loop-i : goal.invariant-loop-i
invariant-loop-i g l = record {
  exact : l.found.items ++ along_edges l.way (Some l.label) (drop l.i l.graph.edges) ≡ along_edges l.way (Some l.label) l.graph.edges;
  few : l.steps ≤ l.initial.steps + l.i;
}
