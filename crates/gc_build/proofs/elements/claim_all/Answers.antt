use Rattle.std.proofs.Common.{◌≡◌, ap, ◌∙◌, slice_get}
use Rattle.gc_build.specs.Makings.{descriptions_of, listed_descriptions}
use Rattle.gc_build.proofs.ClaimSteps.{claimed_next}
use Rattle.gc_build.proofs.elements.claim_all.Goals as goal

pub loop-place-preserved : goal.loop-place-preserved
loop-place-preserved g c =
    let place = c.loop-place.place in
    claimed_next c.args.kept.now c.args.variable.now.var (g.T.Claim.claims c.args.making.now c.args.variable.now)
    _ (descriptions_of c.args.making.now.described c.args.variable.now.var) place c.index-elements-place.result _ _ _ _
    c.loop-place-test.true c.index-elements-place.is
    (c.description_in-description.ensures ∙ ap (λ o. slice_get (listed_descriptions o) place) c.described-described.ensures)
    c.loop-place.invariant c.in_ok-claim_one.ensures
