use Rattle.std.proofs.Common.{◌≡◌, drop, map}
use Rattle.gc_build.specs.Standing.{has_kept}
use Rattle.gc_build.proofs.standing.has_kept.Given as goal

-- none of those so far is kept
abbrev pub invariant-loop-one : goal.invariant-loop-one
invariant-loop-one l = has_kept l.place (map (λ s. s.now) (drop l.one-index l.one-items)) ≡ has_kept l.place (map (λ s. s.now) l.one-items)
