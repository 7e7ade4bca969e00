use Rattle.gc_query.proofs.PlainParts.{nothing_asked}
use Rattle.gc_query.proofs.path_views.has_no_query.Goals as goal

pub returns-in-Some : goal.returns-in-Some
returns-in-Some c = λ names. nothing_asked names c.args.filter.now c.in-Some.formula c.deref.result.now c.asks_nothing.result c.in-Some.is c.deref.ensures.value c.asks_nothing.ensures
