use Rattle.gc_ast.specs.QueryViews.{change_tree}
use Rattle.gc_parse_readers.specs.Kinds.{word_kind}
use Rattle.gc_parse_source.proofs.Loops.{loop_stops, loop_goes_on, loop_exits, loop_begins}
use Rattle.gc_parse_readers.specs.ConstructReaders.{read_sub}
use Rattle.gc_parse_readers.specs.QueryReaders.{nested}
use Rattle.gc_parse_readers.specs.Points.{bare}
use Rattle.std.proofs.Common.{sym, ◌∙◌, ◌-◌, ◌∷◌, [], codes, drop, map}
use Rattle.std.proofs.lemmas.Result.{err_from_is_err_and}
use Rattle.gc_parse_constructs.proofs.assigns.subs.Goals as goal

pub returns-then-not-is_sub_at : goal.returns-then-not-is_sub_at
returns-then-not-is_sub_at g c =
    loop_stops (change_tree c.args.source.now.names) (word_kind (codes "SET") ∷ word_kind (codes "REMOVE") ∷ []) (read_sub c.args.room (nested (c.args.room - 1))) (c.args.room - c.loop.counter) c.loop.changes.items
    (bare c.loop.at) (drop c.loop.at c.args.source.now.tokens) _ c.loop.invariant (sym c.is_sub_at.ensures ∙ c.if-not-is_sub_at.true)

pub returns-in_err-change : goal.returns-in_err-change
returns-in_err-change g c =
    loop_exits (λ items. map (change_tree c.args.source.now.names) items.items) (change_tree c.args.source.now.names) c.args.source.now.tokens (word_kind (codes "SET") ∷ word_kind (codes "REMOVE") ∷ []) (read_sub c.args.room (nested (c.args.room - 1))) c.args.room c.loop.counter (map (change_tree c.args.source.now.names) c.loop.changes.items)
    (bare c.loop.at) (drop c.loop.at c.args.source.now.tokens) _ c.in_err-change.field-0.0 c.from_residual.result
    (err_from_is_err_and c.from_residual.result c.from_residual.ensures.1)
    c.loop.invariant c.loop-test.true (sym c.is_sub_at.ensures ∙ c.if-not-is_sub_at.false) c.in_err-change.ensures

pub loop-preserved : goal.loop-preserved
loop-preserved g c =
    loop_goes_on (change_tree c.args.source.now.names) (word_kind (codes "SET") ∷ word_kind (codes "REMOVE") ∷ []) (read_sub c.args.room (nested (c.args.room - 1))) c.args.room c.loop.counter c.loop.changes.items c.push.new.self.items c.in_ok-change.change
    (bare c.loop.at) (bare c.in_ok-change.next) (drop c.loop.at c.args.source.now.tokens) (drop c.in_ok-change.next c.args.source.now.tokens) _
    c.loop.invariant c.loop-test.true (sym c.is_sub_at.ensures ∙ c.if-not-is_sub_at.false) c.in_ok-change.ensures c.in_ok-push.ensures.items

pub loop-init : goal.loop-init
loop-init g c = loop_begins (change_tree c.args.source.now.names) (word_kind (codes "SET") ∷ word_kind (codes "REMOVE") ∷ []) (read_sub c.args.room (nested (c.args.room - 1))) c.args.room c.new-changes.result.items (bare c.args.from) (drop c.args.from c.args.source.now.tokens) c.new-changes.ensures.items
