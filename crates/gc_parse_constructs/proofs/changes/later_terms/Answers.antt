use Rattle.std.proofs.Common.{sym, ◌∙◌, ◌-◌, ◌∷◌, [], drop, map}
use Rattle.std.proofs.lemmas.Result.{err_from_is_err_and}
use Rattle.gc_lex.specs.declared.token.Mark.TheVariants as mark
use Rattle.gc_parse_readers.specs.Kinds.{mark_kind}
use Rattle.gc_parse_readers.specs.Readers.{read_behind, read_mark}
use Rattle.gc_parse_readers.specs.ConstructReaders.{read_group_term}
use Rattle.gc_ast.specs.PatternViews.{group_term_tree}
use Rattle.gc_parse_readers.specs.Points.{bare}
use Rattle.gc_parse_source.proofs.Loops.{loop_stops, loop_goes_on, loop_exits}
use Rattle.gc_parse_constructs.proofs.changes.later_terms.Goals as goal

pub returns-then-not-is_at : goal.returns-then-not-is_at
returns-then-not-is_at c =
    loop_stops (group_term_tree c.args.source.now.names) (mark_kind mark.Comma ∷ []) (read_behind (read_mark mark.Comma) read_group_term) (c.args.room - c.loop.counter) c.loop.terms
    (bare c.loop.at) (drop c.loop.at c.args.source.now.tokens) _ c.loop.invariant (sym c.is_at.ensures.stands ∙ c.if-not-is_at.true)

pub returns-in_err-term : goal.returns-in_err-term
returns-in_err-term c =
    loop_exits (λ items. map (group_term_tree c.args.source.now.names) items) (group_term_tree c.args.source.now.names) c.args.source.now.tokens (mark_kind mark.Comma ∷ []) (read_behind (read_mark mark.Comma) read_group_term) c.args.room c.loop.counter (map (group_term_tree c.args.source.now.names) c.loop.terms)
    (bare c.loop.at) (drop c.loop.at c.args.source.now.tokens) _ c.in_err-term.field-0.0 c.from_residual-in_err-term.result
    (err_from_is_err_and c.from_residual-in_err-term.result c.from_residual-in_err-term.ensures.1)
    c.loop.invariant c.loop-test.true (sym c.is_at.ensures.stands ∙ c.if-not-is_at.false) c.in_err-term.ensures

pub loop-preserved : goal.loop-preserved
loop-preserved c =
    loop_goes_on (group_term_tree c.args.source.now.names) (mark_kind mark.Comma ∷ []) (read_behind (read_mark mark.Comma) read_group_term) c.args.room c.loop.counter c.loop.terms c.push.new.self c.in_ok-term.term
    (bare c.loop.at) (bare c.in_ok-term.next) (drop c.loop.at c.args.source.now.tokens) (drop c.in_ok-term.next c.args.source.now.tokens) _
    c.loop.invariant c.loop-test.true (sym c.is_at.ensures.stands ∙ c.if-not-is_at.false) c.in_ok-term.ensures c.in_ok-push.ensures.ok
