use Rattle.std.proofs.Common.{sym, ◌∙◌, ◌-◌, ◌∷◌, [], drop, map}
use Rattle.std.proofs.lemmas.Result.{err_from_is_err_and}
use Rattle.gc_lex.specs.declared.token.Mark.TheVariants as mark
use Rattle.gc_parse_readers.specs.Kinds.{mark_kind}
use Rattle.gc_parse_readers.specs.Readers.{read_behind, read_mark, read_word}
use Rattle.gc_parse_readers.specs.Points.{bare}
use Rattle.gc_parse_source.proofs.Loops.{loop_stops, loop_goes_on, loop_exits}
use Rattle.gc_parse_patterns.proofs.labels.later_words.Goals as goal

pub returns-then-not-is_at : goal.returns-then-not-is_at
returns-then-not-is_at c =
    loop_stops (λ w. w) (mark_kind mark.Bar ∷ []) (read_behind (read_mark mark.Bar) read_word) (c.args.room - c.loop.counter) c.loop.words
    (bare c.loop.at) (drop c.loop.at c.args.source.now.tokens) _ c.loop.invariant (sym c.is_at.ensures.stands ∙ c.if-not-is_at.true)

pub returns-in_err-word : goal.returns-in_err-word
returns-in_err-word c =
    loop_exits (λ items. map (λ w. w) items) (λ w. w) c.args.source.now.tokens (mark_kind mark.Bar ∷ []) (read_behind (read_mark mark.Bar) read_word) c.args.room c.loop.counter (map (λ w. w) c.loop.words)
    (bare c.loop.at) (drop c.loop.at c.args.source.now.tokens) _ c.in_err-word.field-0.0 c.from_residual-in_err-word.result
    (err_from_is_err_and c.from_residual-in_err-word.result c.from_residual-in_err-word.ensures.1)
    c.loop.invariant c.loop-test.true (sym c.is_at.ensures.stands ∙ c.if-not-is_at.false) c.in_err-word.ensures

pub loop-preserved : goal.loop-preserved
loop-preserved c =
    loop_goes_on (λ w. w) (mark_kind mark.Bar ∷ []) (read_behind (read_mark mark.Bar) read_word) c.args.room c.loop.counter c.loop.words c.push.new.self c.in_ok-word.word
    (bare c.loop.at) (bare c.in_ok-word.next) (drop c.loop.at c.args.source.now.tokens) (drop c.in_ok-word.next c.args.source.now.tokens) _
    c.loop.invariant c.loop-test.true (sym c.is_at.ensures.stands ∙ c.if-not-is_at.false) c.in_ok-word.ensures c.in_ok-push.ensures.ok
