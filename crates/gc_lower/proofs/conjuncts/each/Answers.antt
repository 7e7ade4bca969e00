use Rattle.gc_lower.specs.Namings.{variable_in}
use Rattle.std.proofs.Common.{◌∙◌}
use Rattle.gc_lower.proofs.Dealings.{next_conjunct}
use Rattle.gc_lower.proofs.conjuncts.each.Goals as goal

pub loop-part-preserved : goal.loop-part-preserved
loop-part-preserved c =
    next_conjunct (variable_in c.args.naming.now) c.loop-part.conjuncts.items c.push.new.self.items c.in_ok-conjunct.field-0 c.loop-part.before c.in_ok-before.before c.in_ok-count.count
    c.args.parts.now c.loop-part.part-index c.part-item.result c.loop-part.left.items c.rest_of.new.queries.items c.in_ok-later.later.items
    c.loop-part-test.true c.part-item.is c.in_ok-count.ensures c.in_ok-before.ensures c.in_ok-later.ensures.kept c.in_ok-later.ensures.rest
    c.in_ok-conjunct.ensures c.in_ok-push.ensures.items
    ∙ c.loop-part.invariant
