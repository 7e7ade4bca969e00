use Rattle.std.proofs.Common.{sym, ◌∙◌}
use Rattle.std.proofs.lemmas.Result.{IfOk-weaker}
use Rattle.gc_parse.proofs.QueryLemmas.{as_term_of_query}
use Rattle.gc_parse.proofs.queries.wrapped.Goals as goal

pub returns : goal.returns
returns c =
    IfOk-weaker c.wrapped_parts.result _ _ (λ term p names. p names ∙ sym (as_term_of_query names c.args.query)) c.wrapped_parts.ensures
