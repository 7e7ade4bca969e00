use Rattle.std.proofs.Common.{◌∙◌, ap, refl, sym}
use Rattle.std.proofs.lemmas.Option.{slice_get_read}
use Rattle.gc_parse_source.proofs.NameNumbers.{next_names, numbers_next}
use Rattle.gc_parse_source.proofs.numbering.numbered.Goals as goal

pub loop-token-preserved : goal.loop-token-preserved
loop-token-preserved c = (
  numbers_next c.loop-token.names c.number_of.new.names c.args.tokens.now c.loop-token.syms.items c.push.new.self.items c.loop-token.token-index c.token-item.result c.in_ok-number_of.field-0
      c.loop-token.invariant.0 c.number_of.ensures.extends
      (slice_get_read c.args.tokens.now _ c.loop-token.token-index c.token-item.result refl c.loop-token-test.true c.token-item.is)
      c.in_ok-number_of.ensures.number c.in_ok-push.ensures.items,
  next_names c.loop-token.names c.number_of.new.names c.args.tokens.now c.loop-token.token-index c.token-item.result c.loop-token-test.true c.token-item.is c.in_ok-number_of.ensures.names
      ∙ c.loop-token.invariant.1,
)
