use Rattle.std.proofs.Common.{◌≡◌}
use Rattle.gc_search.specs.Tails.{edges_told}
use Rattle.gc_search.proofs.tree.WalkTree.moved.Given as goal

abbrev pub invariant-loop-moved : goal.invariant-loop-moved
invariant-loop-moved l = edges_told l.self.setting l.self.walks l.moved ≡ edges_told l.self.setting l.self.walks l.initial.moved

abbrev pub decreases-loop-moved : goal.decreases-loop-moved
decreases-loop-moved l = l.moved.before
