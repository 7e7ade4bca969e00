use Rattle.std.proofs.Common.{◌≡◌, ◌++◌, drop}
use Rattle.gc_build.specs.Claimed.{claims_of}
use Rattle.gc_build.specs.Makings.{descriptions_of}
use Rattle.gc_build_descriptions.specs.Faults.{elements_of}
use Rattle.gc_build.proofs.elements.claim_all.Given as goal

-- what is claimed so far, before what the rest claims
abbrev pub invariant-loop-place : goal.invariant-loop-place
invariant-loop-place g l =
    l.claimed.items ++ claims_of l.kept l.variable.var (g.T.Claim.claims l.making l.variable) (drop l.place l.elements) (drop l.place (descriptions_of l.making.described l.variable.var))
    ≡ l.initial.claimed.items ++ claims_of l.kept l.variable.var (g.T.Claim.claims l.making l.variable) (elements_of l.making.numbered l.variable.var) (descriptions_of l.making.described l.variable.var)
