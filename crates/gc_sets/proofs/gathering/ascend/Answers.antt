use Rattle.std.proofs.Common.{◌≡◌, [], ◌∷◌, drop, rules, arith, drop_of_length-le}
use Rattle.gc_sets.proofs.Neighbours.{ascends_left}
use Rattle.gc_sets.proofs.gathering.ascend.Goals as goal

pub returns : goal.returns
returns g c = λ e.
    let rest = c.in-Some.rest.now in
    let left = drop c.loop-claim.claim-index rest in
    let all : c.args.claims.now ≡ c.in-Some.first.now ∷ rest = search rules in
    let ended : left ≡ [] = drop_of_length-le rest (omega arith) in
    ascends_left g.T.Claim.united g.T.Claim.id_of c.args.claims.now rest left c.in-Some.first.now c.id-last.result c.loop-claim.last all ended c.id-last.ensures c.loop-claim.invariant
