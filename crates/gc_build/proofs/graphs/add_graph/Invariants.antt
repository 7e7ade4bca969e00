use Rattle.std.proofs.Common.{◌≡◌, ◌++◌, drop}
use Rattle.gc_build.proofs.graphs.add_graph.Given as goal

-- those so far, before the rest
abbrev pub invariant-loop-i : goal.invariant-loop-i
invariant-loop-i g l = l.claimed.items ++ drop l.i (g.T.Part.all l.graph) ≡ l.initial.claimed.items ++ g.T.Part.all l.graph
