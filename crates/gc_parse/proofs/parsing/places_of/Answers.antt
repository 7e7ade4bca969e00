use Rattle.std.proofs.Common.{sym, ap, ◌∙◌, ◌∷◌, [], ◌++◌}
use Rattle.gc_parse_source.proofs.Prefixes.{take_snoc}
use Rattle.gc_parse.proofs.parsing.places_of.Goals as goal

pub loop-number-preserved : goal.loop-number-preserved
loop-number-preserved c =
    c.in_ok-push.ensures.ok ∙ ap (λ front. front ++ c.place.result ∷ []) c.loop-number.invariant
    ∙ sym (take_snoc c.args.tokens.now.places c.loop-number.number c.place.result c.place.ensures)
