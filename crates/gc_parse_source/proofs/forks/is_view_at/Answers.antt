use Rattle.std.proofs.Common.{sym, ◌∙◌, ◌+◌, [], ◌∷◌, codes, drop}
use Rattle.gc_parse_readers.specs.Kinds.{word_kind}
use Rattle.gc_parse_readers.proofs.Fronts.{begins_next, begins_last}
use Rattle.gc_parse_source.proofs.forks.is_view_at.Goals as goal

pub returns-then-is_word_at : goal.returns-then-is_word_at
returns-then-is_word_at c =
    begins_next (word_kind (codes "GRAPH") ∷ []) ((word_kind (codes "VIEW") ∷ []) ∷ []) c.args.at c.args.source.now.tokens c.is_word_at-then-is_word_at.result (sym c.is_word_at.ensures.stands ∙ c.if-is_word_at.true)
    (begins_last (word_kind (codes "VIEW") ∷ []) (drop (c.args.at + 1) c.args.source.now.tokens) c.is_word_at-then-is_word_at.result c.is_word_at-then-is_word_at.ensures.stands)
