use Rattle.std.proofs.Common.{sym, ◌∙◌, ◌-◌, ◌∷◌, [], drop, map}
use Rattle.std.proofs.lemmas.Result.{err_from_is_err_and}
use Rattle.gc_lex.specs.declared.token.Mark.TheVariants as mark
use Rattle.gc_ast.specs.PatternViews.{located_tree}
use Rattle.gc_parse_readers.specs.Kinds.{mark_kind}
use Rattle.gc_parse_readers.specs.Readers.{read_behind, read_mark}
use Rattle.gc_parse_readers.specs.PatternReaders.{read_located}
use Rattle.gc_parse_readers.specs.Points.{bare}
use Rattle.gc_parse_source.proofs.Loops.{loop_stops, loop_goes_on, loop_exits}
use Rattle.gc_parse_patterns.proofs.lists.later_located.Goals as goal

pub returns-then-not-is_at : goal.returns-then-not-is_at
returns-then-not-is_at c =
    loop_stops (located_tree c.args.source.now.names) (mark_kind mark.Comma ∷ []) (read_behind (read_mark mark.Comma) (read_located c.args.room)) (c.args.room - c.loop.counter) c.loop.patterns
    (bare c.loop.at) (drop c.loop.at c.args.source.now.tokens) _ c.loop.invariant (sym c.is_at.ensures.stands ∙ c.if-not-is_at.true)

pub returns-in_err-pattern : goal.returns-in_err-pattern
returns-in_err-pattern c =
    loop_exits (λ items. map (located_tree c.args.source.now.names) items) (located_tree c.args.source.now.names) c.args.source.now.tokens (mark_kind mark.Comma ∷ []) (read_behind (read_mark mark.Comma) (read_located c.args.room)) c.args.room c.loop.counter (map (located_tree c.args.source.now.names) c.loop.patterns)
    (bare c.loop.at) (drop c.loop.at c.args.source.now.tokens) _ c.in_err-pattern.field-0.0 c.from_residual-in_err-pattern.result
    (err_from_is_err_and c.from_residual-in_err-pattern.result c.from_residual-in_err-pattern.ensures.1)
    c.loop.invariant c.loop-test.true (sym c.is_at.ensures.stands ∙ c.if-not-is_at.false) c.in_err-pattern.ensures

pub loop-preserved : goal.loop-preserved
loop-preserved c =
    loop_goes_on (located_tree c.args.source.now.names) (mark_kind mark.Comma ∷ []) (read_behind (read_mark mark.Comma) (read_located c.args.room)) c.args.room c.loop.counter c.loop.patterns c.push.new.self c.in_ok-pattern.pattern
    (bare c.loop.at) (bare c.in_ok-pattern.next) (drop c.loop.at c.args.source.now.tokens) (drop c.in_ok-pattern.next c.args.source.now.tokens) _
    c.loop.invariant c.loop-test.true (sym c.is_at.ensures.stands ∙ c.if-not-is_at.false) c.in_ok-pattern.ensures c.in_ok-push.ensures.ok
