use Rattle.gc_sorts.proofs.LinkKeys.{found_where_fit}
use Rattle.gc_sorts.proofs.links.key.Goals as goal

pub returns-clause-fits : goal.returns-clause-fits
returns-clause-fits c =
    found_where_fit c.args.matched.now.names c.args.link c.in-Some.left c.in-Some-right.right c.between.result c.slot.result c.slot-2.result c.slot-3.result
    c.in-Some.is c.in-Some-right.is c.slot.ensures.same c.slot-2.ensures.same c.slot-3.ensures.same c.between.ensures
