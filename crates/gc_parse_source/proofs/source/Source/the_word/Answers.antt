use Rattle.std.proofs.Common.{sym, refl, ◌∙◌, false, drop}
use Rattle.gc_parse_readers.proofs.TokenKinds.{word_at, word_seen}
use Rattle.gc_parse_source.proofs.source.Source.the_word.Goals as goal

pub returns-then-is_word_at : goal.returns-then-is_word_at
returns-then-is_word_at c = word_at c.args.word.now c.args.at c.args.self.now.tokens c.requires (sym c.is_word_at.ensures.stands ∙ c.if-is_word_at.true)

pub returns-else-is_word_at : goal.returns-else-is_word_at
returns-else-is_word_at c =
    (refl, word_seen c.args.word.now (drop c.args.at c.args.self.now.tokens) false c.requires (sym c.is_word_at.ensures.stands ∙ c.if-is_word_at.false))
