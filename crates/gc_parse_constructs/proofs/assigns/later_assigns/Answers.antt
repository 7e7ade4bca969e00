use Rattle.gc_ast.specs.QueryViews.{assign_tree}
use Rattle.gc_parse_readers.specs.Kinds.{mark_kind}
use Rattle.gc_parse_readers.specs.Readers.{read_behind, read_mark}
use Rattle.gc_parse_source.proofs.Loops.{loop_stops, loop_goes_on, loop_exits}
use Rattle.gc_parse_readers.specs.ConstructReaders.{read_assign}
use Rattle.gc_parse_readers.specs.QueryReaders.{nested}
use Rattle.gc_parse_readers.specs.Points.{bare}
use Rattle.std.proofs.Common.{sym, ◌∙◌, ◌-◌, ◌∷◌, [], drop, map}
use Rattle.std.proofs.lemmas.Result.{err_from_is_err_and}
use Rattle.gc_lex.specs.declared.token.Mark.TheVariants as mark
use Rattle.gc_parse_constructs.proofs.assigns.later_assigns.Goals as goal

pub returns-then-not-is_at : goal.returns-then-not-is_at
returns-then-not-is_at g c =
    loop_stops (assign_tree c.args.source.now.names) (mark_kind mark.Comma ∷ []) (read_behind (read_mark mark.Comma) (read_assign c.args.room (nested (c.args.room - 1)))) (c.args.room - c.loop.counter) c.loop.assigns.items
    (bare c.loop.at) (drop c.loop.at c.args.source.now.tokens) _ c.loop.invariant (sym c.is_at.ensures.stands ∙ c.if-not-is_at.true)

pub returns-in_err-assign : goal.returns-in_err-assign
returns-in_err-assign g c =
    loop_exits (λ items. map (assign_tree c.args.source.now.names) items.items) (assign_tree c.args.source.now.names) c.args.source.now.tokens (mark_kind mark.Comma ∷ []) (read_behind (read_mark mark.Comma) (read_assign c.args.room (nested (c.args.room - 1)))) c.args.room c.loop.counter (map (assign_tree c.args.source.now.names) c.loop.assigns.items)
    (bare c.loop.at) (drop c.loop.at c.args.source.now.tokens) _ c.in_err-assign.field-0.0 c.from_residual-in_err-assign.result
    (err_from_is_err_and c.from_residual-in_err-assign.result c.from_residual-in_err-assign.ensures.1)
    c.loop.invariant c.loop-test.true (sym c.is_at.ensures.stands ∙ c.if-not-is_at.false) c.in_err-assign.ensures

pub loop-preserved : goal.loop-preserved
loop-preserved g c =
    loop_goes_on (assign_tree c.args.source.now.names) (mark_kind mark.Comma ∷ []) (read_behind (read_mark mark.Comma) (read_assign c.args.room (nested (c.args.room - 1)))) c.args.room c.loop.counter c.loop.assigns.items c.push.new.self.items c.in_ok-assign.assign
    (bare c.loop.at) (bare c.in_ok-assign.next) (drop c.loop.at c.args.source.now.tokens) (drop c.in_ok-assign.next c.args.source.now.tokens) _
    c.loop.invariant c.loop-test.true (sym c.is_at.ensures.stands ∙ c.if-not-is_at.false) c.in_ok-assign.ensures c.in_ok-push.ensures.items
