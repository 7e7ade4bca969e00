use Rattle.std.proofs.Common.{◌≡◌, ◌++◌, drop}
use Rattle.std.specs.List.{flat_map}
use Rattle.gc_build.specs.Claimed.{claims_for}
use Rattle.gc_build.proofs.claiming.claimed_by.Given as goal

-- what is claimed so far, before what is claimed for the rest
abbrev pub invariant-loop-variable : goal.invariant-loop-variable
invariant-loop-variable g l =
    l.claimed.items ++ flat_map (claims_for l.making l.kept g.T.Claim.kind (g.T.Claim.claims l.making)) (drop l.variable-index l.variables)
    ≡ flat_map (claims_for l.making l.kept g.T.Claim.kind (g.T.Claim.claims l.making)) l.variables
