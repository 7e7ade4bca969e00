use Rattle.std.proofs.Common.{sym, refl, ◌∙◌, false, drop}
use Rattle.gc_parse_readers.proofs.TokenKinds.{mark_at, mark_seen}
use Rattle.gc_parse_source.proofs.source.Source.mark.Goals as goal

pub returns-then-is_at : goal.returns-then-is_at
returns-then-is_at c = mark_at c.args.mark c.args.at c.args.self.now.tokens (sym c.is_at.ensures.stands ∙ c.if-is_at.true)

pub returns-else-is_at : goal.returns-else-is_at
returns-else-is_at c =
    (refl, mark_seen c.args.mark (drop c.args.at c.args.self.now.tokens) false (sym c.is_at.ensures.stands ∙ c.if-is_at.false))
