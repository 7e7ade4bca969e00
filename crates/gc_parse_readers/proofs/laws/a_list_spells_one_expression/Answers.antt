use Rattle.gc_parse_readers.proofs.WholeRegex.{regex_alone}
use Rattle.gc_parse_readers.proofs.laws.a_list_spells_one_expression.Goals as goal

pub returns : goal.returns
returns c = regex_alone
