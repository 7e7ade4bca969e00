use Rattle.std.proofs.Common.{sym, subst}
use Rattle.gc_check.specs.Replays.{IsAdvance}
use Rattle.gc_check.proofs.replaying.advance.Goals as goal

pub returns-in-Edge : goal.returns-in-Edge
returns-in-Edge c =
    let network = c.args.p.now.network in
    subst (λ b. IsAdvance network b c.args.node c.args.steps.now c.advance_along.result) (sym c.in-Edge.is) (c.advance_along.ensures network c.args.node)
