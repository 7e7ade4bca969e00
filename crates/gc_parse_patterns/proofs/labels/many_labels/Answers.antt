use Rattle.std.proofs.Common.{sym, ◌∙◌, ◌-◌, ◌∷◌, [], drop, map}
use Rattle.std.proofs.lemmas.Result.{err_from_is_err_and}
use Rattle.gc_lex.specs.declared.token.Mark.TheVariants as mark
use Rattle.gc_parse_readers.specs.Kinds.{mark_kind}
use Rattle.gc_parse_readers.specs.PatternReaders.{read_labels, read_label_groups}
use Rattle.gc_parse_readers.specs.Points.{bare}
use Rattle.gc_parse_source.proofs.Loops.{loop_stops, loop_goes_on, loop_exits}
use Rattle.gc_parse_patterns.proofs.labels.many_labels.Goals as goal

pub returns-then-not-is_at : goal.returns-then-not-is_at
unfolding read_label_groups
returns-then-not-is_at c =
    loop_stops (λ g. g) (mark_kind mark.Colon ∷ []) (read_labels c.args.room) (c.args.room - c.loop.counter) c.loop.groups
    (bare c.loop.at) (drop c.loop.at c.args.source.now.tokens) _ c.loop.invariant (sym c.is_at.ensures.stands ∙ c.if-not-is_at.true)

pub returns-in_err-group : goal.returns-in_err-group
unfolding read_label_groups
returns-in_err-group c =
    loop_exits (λ items. map (λ g. g) items) (λ g. g) c.args.source.now.tokens (mark_kind mark.Colon ∷ []) (read_labels c.args.room) c.args.room c.loop.counter (map (λ g. g) c.loop.groups)
    (bare c.loop.at) (drop c.loop.at c.args.source.now.tokens) _ c.in_err-group.field-0.0 c.from_residual.result
    (err_from_is_err_and c.from_residual.result c.from_residual.ensures.1)
    c.loop.invariant c.loop-test.true (sym c.is_at.ensures.stands ∙ c.if-not-is_at.false) c.in_err-group.ensures

pub loop-preserved : goal.loop-preserved
unfolding read_label_groups
loop-preserved c =
    loop_goes_on (λ g. g) (mark_kind mark.Colon ∷ []) (read_labels c.args.room) c.args.room c.loop.counter c.loop.groups c.push.new.self c.in_ok-group.group
    (bare c.loop.at) (bare c.in_ok-group.next) (drop c.loop.at c.args.source.now.tokens) (drop c.in_ok-group.next c.args.source.now.tokens) _
    c.loop.invariant c.loop-test.true (sym c.is_at.ensures.stands ∙ c.if-not-is_at.false) c.in_ok-group.ensures c.in_ok-push.ensures.ok
