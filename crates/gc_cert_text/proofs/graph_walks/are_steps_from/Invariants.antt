use Rattle.std.proofs.Common.{◌≡◌, drop}
use Rattle.gc_spec.specs.PropertyGraph.{are_steps_from}
use Rattle.gc_cert_text.proofs.graph_walks.are_steps_from.Given as goal

-- the rest are steps from the node that is reached just where all are from the first
abbrev pub invariant-loop-step : goal.invariant-loop-step
invariant-loop-step g l = are_steps_from l.graph.edges l.node (drop l.step-index l.list) ≡ are_steps_from l.graph.edges l.fn.start l.list
