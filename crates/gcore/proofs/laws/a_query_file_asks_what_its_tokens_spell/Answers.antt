use Rattle.gcore.proofs.QueryFileLaws.{Parses, asked_as_spelled, told_as_broken, broken_as_told, asked_too_deep, asked_refused}
use Rattle.gcore.proofs.laws.a_query_file_asks_what_its_tokens_spell.Goals as goal

pub returns-clause-spelled : goal.returns-clause-spelled
returns-clause-spelled c = asked_as_spelled (record { spelled = c.a_parse_is_what_tokens_spell.ensures.spelled; spells = c.a_parse_is_what_tokens_spell.ensures.spells; deep = c.a_parse_is_what_tokens_spell.ensures.deep; refused = c.a_parse_is_what_tokens_spell.ensures.refused })

pub returns-clause-broken : goal.returns-clause-broken
returns-clause-broken c = told_as_broken (record { spelled = c.a_parse_is_what_tokens_spell.ensures.spelled; spells = c.a_parse_is_what_tokens_spell.ensures.spells; deep = c.a_parse_is_what_tokens_spell.ensures.deep; refused = c.a_parse_is_what_tokens_spell.ensures.refused })

pub returns-clause-told : goal.returns-clause-told
returns-clause-told c = broken_as_told (record { spelled = c.a_parse_is_what_tokens_spell.ensures.spelled; spells = c.a_parse_is_what_tokens_spell.ensures.spells; deep = c.a_parse_is_what_tokens_spell.ensures.deep; refused = c.a_parse_is_what_tokens_spell.ensures.refused })

pub returns-clause-deep : goal.returns-clause-deep
returns-clause-deep c = asked_too_deep (record { spelled = c.a_parse_is_what_tokens_spell.ensures.spelled; spells = c.a_parse_is_what_tokens_spell.ensures.spells; deep = c.a_parse_is_what_tokens_spell.ensures.deep; refused = c.a_parse_is_what_tokens_spell.ensures.refused })

pub returns-clause-refused : goal.returns-clause-refused
returns-clause-refused c = asked_refused (record { spelled = c.a_parse_is_what_tokens_spell.ensures.spelled; spells = c.a_parse_is_what_tokens_spell.ensures.spells; deep = c.a_parse_is_what_tokens_spell.ensures.deep; refused = c.a_parse_is_what_tokens_spell.ensures.refused })
