use Rattle.gc_cert_searches.proofs.Listing.{more_potentials}
use Rattle.gc_cert_searches.proofs.potentials.add_at.Goals as goal

pub loop-state-preserved : goal.loop-state-preserved
loop-state-preserved c =
    more_potentials c.args.found.now c.args.node c.loop-state.state c.args.potentials.now c.loop-state.potentials c.add_if.new.potentials c.potential.result
    c.loop-state.invariant c.potential.ensures c.in_ok-add_if.ensures
