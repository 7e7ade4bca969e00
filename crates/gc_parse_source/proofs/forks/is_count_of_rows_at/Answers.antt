use Rattle.std.proofs.Common.{sym, ◌∙◌, [], ◌∷◌, codes}
use Rattle.gc_lex.specs.declared.token.Mark.TheVariants as mark
use Rattle.gc_parse_readers.specs.Kinds.{mark_kind, word_kind}
use Rattle.gc_parse_readers.proofs.Fronts.{begins_next}
use Rattle.gc_parse_source.proofs.forks.is_count_of_rows_at.Goals as goal

pub returns-then-is_word_at : goal.returns-then-is_word_at
returns-then-is_word_at c =
    begins_next (word_kind (codes "COUNT") ∷ []) ((mark_kind mark.OpenParenthesis ∷ []) ∷ (mark_kind mark.Star ∷ []) ∷ []) c.args.at c.args.source.now.tokens c.is_open_star_at.result (sym c.is_word_at.ensures.stands ∙ c.if-is_word_at.true)
    c.is_open_star_at.ensures
