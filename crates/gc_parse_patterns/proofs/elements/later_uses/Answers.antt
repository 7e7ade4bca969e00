use Rattle.std.proofs.Common.{sym, ◌∙◌, ◌-◌, ◌∷◌, [], drop, map}
use Rattle.std.proofs.lemmas.Result.{err_from_is_err_and}
use Rattle.gc_lex.specs.declared.token.Mark.TheVariants as mark
use Rattle.gc_parse_readers.specs.Kinds.{mark_kind}
use Rattle.gc_parse_readers.specs.Readers.{read_behind, read_mark}
use Rattle.gc_parse_readers.specs.PatternReaders.{read_property_use}
use Rattle.gc_parse_patterns.specs.PatternViews.{property_use_tree}
use Rattle.gc_parse_readers.specs.Points.{bare}
use Rattle.gc_parse_source.proofs.Loops.{loop_stops, loop_goes_on, loop_exits}
use Rattle.gc_parse_patterns.proofs.elements.later_uses.Goals as goal

pub returns-then-not-is_at : goal.returns-then-not-is_at
returns-then-not-is_at c =
    loop_stops (property_use_tree c.args.source.now.names) (mark_kind mark.Comma ∷ []) (read_behind (read_mark mark.Comma) read_property_use) (c.args.room - c.loop.counter) c.loop.uses
    (bare c.loop.at) (drop c.loop.at c.args.source.now.tokens) _ c.loop.invariant (sym c.is_at.ensures.stands ∙ c.if-not-is_at.true)

pub returns-in_err-used : goal.returns-in_err-used
returns-in_err-used c =
    loop_exits (λ items. map (property_use_tree c.args.source.now.names) items) (property_use_tree c.args.source.now.names) c.args.source.now.tokens (mark_kind mark.Comma ∷ []) (read_behind (read_mark mark.Comma) read_property_use) c.args.room c.loop.counter (map (property_use_tree c.args.source.now.names) c.loop.uses)
    (bare c.loop.at) (drop c.loop.at c.args.source.now.tokens) _ c.in_err-used.field-0.0 c.from_residual-in_err-used.result
    (err_from_is_err_and c.from_residual-in_err-used.result c.from_residual-in_err-used.ensures.1)
    c.loop.invariant c.loop-test.true (sym c.is_at.ensures.stands ∙ c.if-not-is_at.false) c.in_err-used.ensures

pub loop-preserved : goal.loop-preserved
loop-preserved c =
    loop_goes_on (property_use_tree c.args.source.now.names) (mark_kind mark.Comma ∷ []) (read_behind (read_mark mark.Comma) read_property_use) c.args.room c.loop.counter c.loop.uses c.push.new.self c.in_ok-used.used
    (bare c.loop.at) (bare c.in_ok-used.next) (drop c.loop.at c.args.source.now.tokens) (drop c.in_ok-used.next c.args.source.now.tokens) _
    c.loop.invariant c.loop-test.true (sym c.is_at.ensures.stands ∙ c.if-not-is_at.false) c.in_ok-used.ensures c.in_ok-push.ensures.ok
