use Rattle.std.proofs.Common.{sym, ◌∙◌, ◌+◌, [], ◌∷◌, drop}
use Rattle.gc_lex.specs.declared.token.Mark.TheVariants as mark
use Rattle.gc_parse_readers.specs.Kinds.{mark_kind, name_kind}
use Rattle.gc_parse_readers.proofs.Fronts.{begins_next, begins_last}
use Rattle.gc_parse_source.proofs.forks.is_name_dot_at.Goals as goal

pub returns-then-is_name_at : goal.returns-then-is_name_at
returns-then-is_name_at c =
    begins_next (name_kind ∷ []) ((mark_kind mark.Dot ∷ []) ∷ []) c.args.at c.args.source.now.tokens c.is_at.result (sym c.is_name_at.ensures.stands ∙ c.if-is_name_at.true)
    (begins_last (mark_kind mark.Dot ∷ []) (drop (c.args.at + 1) c.args.source.now.tokens) c.is_at.result c.is_at.ensures.stands)
