use Rattle.std.proofs.Common.{take}
use Rattle.std.specs.List.{AllByRecursion}
use Rattle.gc_spec.specs.PropertyGraph.{IsGraph}
use Rattle.gc_query.proofs.standing.are_graphs.Given as goal

-- the graphs so far are
abbrev pub invariant-loop-graph : goal.invariant-loop-graph
invariant-loop-graph l = AllByRecursion IsGraph (take l.graph-index l.graphs)
