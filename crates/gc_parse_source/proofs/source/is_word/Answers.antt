use Rattle.gc_parse_readers.proofs.TokenKinds.{word_told, no_word_kind}
use Rattle.gc_parse_source.proofs.source.is_word.Goals as goal

pub returns-in-Word : goal.returns-in-Word
returns-in-Word c =
    word_told c.args.token.now c.in-Word.other c.args.word.now c.bytes.result.now c.as_bytes.result.now c.eq.result
    c.requires c.in-Word.is c.bytes.ensures.bytes c.as_bytes.ensures.value c.eq.ensures

pub returns-in_default : goal.returns-in_default
returns-in_default c = no_word_kind c.args.word.now c.args.token.now c.requires c.in_default.not-Word
