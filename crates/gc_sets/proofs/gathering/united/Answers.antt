use Rattle.std.proofs.Common.{◌≡◌, [], ◌∷◌, sym, ap, ◌∙◌}
use Rattle.std.proofs.lemmas.List.{nil_from_length}
use Rattle.gc_sets.proofs.Neighbours.{rise, gathered_all}
use Rattle.gc_sets.proofs.gathering.united.Goals as goal

pub returns : goal.returns
returns g c =
    let id_of = g.T.Claim.id_of in
    let unite = g.T.Claim.united in
    let begun : c.args.claims.items ≡ c.in-Some.first ∷ c.next.new.self.rest.items = sym c.into_iter-claims.ensures.rest ∙ c.in-Some.ensures.items in
    let rest = c.loop-claim.claim-iterator.rest in
    let ended : rest.items ≡ [] = nil_from_length rest.items (sym rest.ok.0 ∙ c.in-None.ensures.steps.0) in
    gathered_all unite id_of g.met.T.Claim.same_id c.args.claims.items c.next.new.self.rest.items c.into_iter-claim-iterator.result.rest.items c.in_ok-all.all.items c.loop-claim.all.items rest.items
    c.push-2.new.self.items c.in-Some.first c.loop-claim.last begun (ap (λ i. i.rest.items) c.into_iter-claim-iterator.ensures.into_iter_gives) c.in_ok-all.ensures.items ended c.loop-claim.invariant
    c.in_ok-push-2.ensures.items (rise unite id_of c.args.claims.items c.requires)
