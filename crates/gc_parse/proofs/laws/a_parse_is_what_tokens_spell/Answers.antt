use Rattle.gc_parse.proofs.ParsedLaws.{parsed_spelled, parsed_spells, parsed_deep, parsed_refused}
use Rattle.gc_parse.proofs.laws.a_parse_is_what_tokens_spell.Goals as goal

pub returns-clause-spelled : goal.returns-clause-spelled
returns-clause-spelled c = parsed_spelled

pub returns-clause-spells : goal.returns-clause-spells
returns-clause-spells c = parsed_spells

pub returns-clause-deep : goal.returns-clause-deep
returns-clause-deep c = parsed_deep

pub returns-clause-refused : goal.returns-clause-refused
returns-clause-refused c = parsed_refused
