use Rattle.gcore.proofs.BuiltQueries.{query_built}
use Rattle.gcore.proofs.SpelledOrder.{Widens, spelled_order}
use Rattle.gcore.proofs.SpelledQueries.{spelled_parts}
use Rattle.gcore.proofs.laws.a_query_file_that_is_read_is_built.Goals as goal

pub returns-clause-parts : goal.returns-clause-parts
returns-clause-parts c = spelled_parts

pub returns-clause-order : goal.returns-clause-order
returns-clause-order c =
    let wider = c.what_is_in_order_is_so_between_wider_numbers.ensures in
    spelled_order (record { order = wider.tree; named = wider.name; perhaps = wider.optional })

pub returns-clause-built : goal.returns-clause-built
returns-clause-built c =
    let wider = c.what_is_in_order_is_so_between_wider_numbers.ensures in
    query_built c.a_parse_is_what_tokens_spell.ensures.spells c.a_file_that_breaks_no_rule_is_built.ensures (record { order = wider.tree; named = wider.name; perhaps = wider.optional })
