use Rattle.std.proofs.Common.{sym, ◌∙◌, ◌+◌, [], ◌∷◌, drop}
use Rattle.gc_lex.specs.declared.token.Mark.TheVariants as mark
use Rattle.gc_parse_readers.specs.Kinds.{mark_kind}
use Rattle.gc_parse_readers.proofs.Fronts.{begins_next, begins_last}
use Rattle.gc_parse_source.proofs.forks.is_path_at.Goals as goal

pub returns-then-is_at : goal.returns-then-is_at
returns-then-is_at c =
    begins_next (mark_kind mark.Minus ∷ []) ((mark_kind mark.Slash ∷ []) ∷ []) c.args.at c.args.source.now.tokens c.is_at-then-is_at.result (sym c.is_at.ensures.stands ∙ c.if-is_at.true)
    (begins_last (mark_kind mark.Slash ∷ []) (drop (c.args.at + 1) c.args.source.now.tokens) c.is_at-then-is_at.result c.is_at-then-is_at.ensures.stands)
