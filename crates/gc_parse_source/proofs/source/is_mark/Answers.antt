use Rattle.gc_parse_readers.proofs.TokenKinds.{no_mark_kind}
use Rattle.gc_parse_source.proofs.source.is_mark.Goals as goal

pub returns-in_default : goal.returns-in_default
returns-in_default c = no_mark_kind c.args.mark c.args.token.now c.in_default.not-Symbol
