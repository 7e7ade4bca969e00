use Rattle.std.proofs.Common.{◌≡◌, ◌++◌, drop}
use Rattle.std.specs.List.{filter}
use Rattle.gc_prod.specs.Leading.{pair}
use Rattle.gc_reach.specs.Marking.{has_pair}
use Rattle.gc_reach.proofs.marks.Marks.nodes_with.Given as goal

abbrev pub invariant-loop-place : goal.invariant-loop-place
invariant-loop-place l =
    l.found.items ++ filter (λ node. has_pair l.self.pairs (pair node l.state)) (drop l.place l.self.nodes)
    ≡ filter (λ node. has_pair l.self.pairs (pair node l.state)) l.self.nodes
