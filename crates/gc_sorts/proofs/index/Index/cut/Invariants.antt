use Rattle.std.proofs.Common.{◌≡◌, take, length}
use Rattle.gc_sorts.proofs.index.Index.cut.Given as goal

-- the first n names stay
abbrev pub invariant-loop-self : goal.invariant-loop-self
invariant-loop-self l =
    record { names : l.self.names ≡ l.initial.self.names; front : take l.n l.self.order ≡ take l.n l.initial.self.order }

abbrev pub decreases-loop-self : goal.decreases-loop-self
decreases-loop-self l = length l.self.order
