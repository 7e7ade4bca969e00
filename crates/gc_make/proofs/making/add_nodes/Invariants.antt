use Rattle.std.proofs.Common.{◌≡◌}
use Rattle.gc_make.specs.MadeGraphs.{made_nodes}
use Rattle.gc_make.proofs.making.add_nodes.Given as goal

-- the nodes so far
abbrev pub invariant-loop-i : goal.invariant-loop-i
invariant-loop-i l = l.builder ≡ made_nodes l.i
