use Rattle.std.proofs.Common.{◌≡◌, ◌++◌}
use Rattle.gc_sets.proofs.Neighbours.{united_from}
use Rattle.gc_sets.proofs.gathering.united.Given as goal

-- those so far with what the rest makes of the last are what all claims make
abbrev pub invariant-loop-claim : goal.invariant-loop-claim
invariant-loop-claim g l =
    l.all.items ++ united_from g.T.Claim.united g.T.Claim.id_of l.last l.claim-iterator.rest.items
    ≡ l.initial.all.items ++ united_from g.T.Claim.united g.T.Claim.id_of l.initial.last l.initial.claim-iterator.rest.items
