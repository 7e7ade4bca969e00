use Rattle.gc_sorts.proofs.UsePlaces.{costs_from}
use Rattle.gc_sorts.proofs.matches.add_costs.Goals as goal

pub returns-clause-order : goal.returns-clause-order
returns-clause-order c =
    costs_from c.args.variables.now.names c.args.variables.now.uses c.from-place-items.result.now c.args.from c.loop-place.place-index
    c.from-place-items.ensures c.loop-place-test.false c.args.costs.now.order c.loop-place.costs.order c.requires.before c.loop-place.invariant.order
