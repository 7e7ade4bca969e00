use Rattle.std.proofs.Common.{length, ◌-◌, ◌≡◌, ◌≤◌, ◌<◌, ℕ, IfSome}
use Rattle.gc_ppg.specs.KeyedPlaces.{run_at}
use Rattle.gc_ppg.proofs.node_edges.next_at.Given as goal

-- what was passed over has other ends
abbrev pub invariant-loop-at : goal.invariant-loop-at
invariant-loop-at l = (l.i ≤ l.at) × ((k : ℕ) → l.i ≤ k → k < l.at → IfSome (run_at l.node l.places k) (λ p. p.far.node ≡ l.other → ⊥))

abbrev pub decreases-loop-at : goal.decreases-loop-at
decreases-loop-at l = length l.places - l.at
