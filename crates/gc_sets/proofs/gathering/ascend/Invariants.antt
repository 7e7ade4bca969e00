use Rattle.std.proofs.Common.{◌≡◌, drop}
use Rattle.gc_sets.proofs.Neighbours.{rises_from}
use Rattle.gc_sets.proofs.gathering.ascend.Given as goal

-- the rest rises from the last just where all do from the first
abbrev pub invariant-loop-claim : goal.invariant-loop-claim
invariant-loop-claim g l = rises_from g.T.Claim.united g.T.Claim.id_of l.last (drop l.claim-index l.rest) ≡ rises_from g.T.Claim.united g.T.Claim.id_of l.initial.last l.rest
