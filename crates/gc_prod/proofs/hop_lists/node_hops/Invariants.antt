use Rattle.std.proofs.Common.{◌≡◌, ◌+◌, ◌≤◌, ◌++◌, drop}
use Rattle.std.specs.Option.{option_copied}
use Rattle.gc_prod.specs.SymbolHops.{at_nodes}
use Rattle.gc_prod.proofs.hop_lists.node_hops.Given as goal

abbrev pub invariant-loop-i : goal.invariant-loop-i
invariant-loop-i g l = record {
  exact : l.found.items ++ at_nodes (option_copied l.label) (drop l.i l.graph.nodes) ≡ at_nodes (option_copied l.label) l.graph.nodes;
  few : l.steps ≤ l.initial.steps + l.i;
}
