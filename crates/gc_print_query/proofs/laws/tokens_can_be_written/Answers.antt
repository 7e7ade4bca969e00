use Rattle.gc_print_query.proofs.Utf8Tokens.{lexed_writable}
use Rattle.gc_print_query.proofs.laws.tokens_can_be_written.Goals as goal

pub returns : goal.returns
returns c = lexed_writable
