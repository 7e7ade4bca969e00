use Rattle.gc_parse.proofs.ParsedExpressions.{expression_spelled, expression_spells}
use Rattle.gc_parse.proofs.laws.an_expression_is_what_tokens_spell.Goals as goal

pub returns-clause-spelled : goal.returns-clause-spelled
returns-clause-spelled c = expression_spelled

pub returns-clause-spells : goal.returns-clause-spells
returns-clause-spells c = expression_spells
