use Rattle.gc_rules.proofs.OccurringViews.{conjunct_next, on_ok, part_next, query_next}
use Rattle.gc_rules.proofs.occurring.+occurring.Goals as goal

pub push_conjunct-returns : goal.push_conjunct-returns
push_conjunct-returns t c =
    on_ok (conjunct_next c.args.conjunct.now c.args.vars.now.items c.push_expression.new.vars.items c.push_queries.new.vars.items c.deref.result.now
    c.in_ok-push_expression.ensures c.deref.ensures.value) c.push_queries.result c.push_queries.ensures

pub push_part-returns : goal.push_part-returns
push_part-returns t c =
    on_ok (part_next c.args.part.now c.args.vars.now.items c.push_atoms.new.vars.items c.push_conjuncts.new.vars.items c.deref.result.now c.deref-2.result.now
    c.deref.ensures.value c.in_ok-push_atoms.ensures c.deref-2.ensures.value) c.push_conjuncts.result c.push_conjuncts.ensures

pub push_query-returns : goal.push_query-returns
push_query-returns t c =
    on_ok (query_next c.args.query.now c.args.vars.now.items c.push_all.new.vars.items c.push_block.new.vars.items c.as_slice.result.now
    c.as_slice.ensures c.in_ok-push_all.ensures) c.push_block.result c.push_block.ensures
