use Rattle.gc_expr.specs.Views.{expr_tree, sum_part_tree, product_part_tree}
use Rattle.gc_parse_readers.specs.Kinds.{mark_kind, word_kind}
use Rattle.gc_parse_readers.specs.Readers.{read_behind, read_the_word}
use Rattle.gc_parse_source.proofs.Loops.{loop_stops, loop_goes_on, loop_with_exits}
use Rattle.gc_parse_readers.specs.ExpressionReaders.{product_kinds, read_and, read_not, read_sum_part, read_product_part}
use Rattle.gc_parse_readers.specs.QueryReaders.{nested}
use Rattle.gc_parse_readers.specs.Points.{point}
use Rattle.gc_parse_source.specs.Results.{queries_view}
use Rattle.std.proofs.Common.{sym, ◌∙◌, ◌-◌, ◌∷◌, [], codes, drop, map}
use Rattle.std.proofs.lemmas.Result.{err_from_is_err_and}
use Rattle.gc_lex.specs.declared.token.Mark.TheVariants as mark
use Rattle.gc_parse_expressions.proofs.+expression.Goals as goal

pub expressions::later_alternatives-returns-then-not-is_word_at : goal.expressions::later_alternatives-returns-then-not-is_word_at
expressions::later_alternatives-returns-then-not-is_word_at g t c =
    loop_stops (expr_tree c.args.source.now.names) (word_kind (codes "OR") ∷ []) (read_behind (read_the_word (codes "OR")) (read_and c.args.room (nested (c.args.room - 1)))) (c.args.room - c.loop.counter) c.loop.parts.items
    (point c.loop.at (queries_view c.args.source.now.names c.loop.exists.items)) (drop c.loop.at c.args.source.now.tokens) _ c.loop.invariant (sym c.is_word_at.ensures.stands ∙ c.if-not-is_word_at.true)

pub expressions::later_alternatives-returns-in_err-part : goal.expressions::later_alternatives-returns-in_err-part
expressions::later_alternatives-returns-in_err-part g t c =
    loop_with_exits (λ parts. map (expr_tree c.args.source.now.names) parts.items) (expr_tree c.args.source.now.names)
    (queries_view c.args.source.now.names c.later_alternative.new.exists.items) (queries_view c.args.source.now.names c.later_alternative.new.exists.items) c.args.source.now.tokens (word_kind (codes "OR") ∷ []) (read_behind (read_the_word (codes "OR")) (read_and c.args.room (nested (c.args.room - 1))))
    c.args.room c.loop.counter (map (expr_tree c.args.source.now.names) c.loop.parts.items) (point c.loop.at (queries_view c.args.source.now.names c.loop.exists.items)) (drop c.loop.at c.args.source.now.tokens) _ c.in_err-part.field-0.0 c.from_residual-in_err-part.result
    (err_from_is_err_and c.from_residual-in_err-part.result c.from_residual-in_err-part.ensures.1)
    c.loop.invariant c.loop-test.true (sym c.is_word_at.ensures.stands ∙ c.if-not-is_word_at.false) c.in_err-part.ensures

pub expressions::later_alternatives-loop-preserved : goal.expressions::later_alternatives-loop-preserved
expressions::later_alternatives-loop-preserved g t c =
    loop_goes_on (expr_tree c.args.source.now.names) (word_kind (codes "OR") ∷ []) (read_behind (read_the_word (codes "OR")) (read_and c.args.room (nested (c.args.room - 1)))) c.args.room c.loop.counter c.loop.parts.items c.push.new.self.items c.in_ok-part.part
    (point c.loop.at (queries_view c.args.source.now.names c.loop.exists.items)) (point c.in_ok-part.next (queries_view c.args.source.now.names c.later_alternative.new.exists.items)) (drop c.loop.at c.args.source.now.tokens) (drop c.in_ok-part.next c.args.source.now.tokens) _
    c.loop.invariant c.loop-test.true (sym c.is_word_at.ensures.stands ∙ c.if-not-is_word_at.false) c.in_ok-part.ensures c.in_ok-push.ensures.items

pub expressions::later_conditions-returns-then-not-is_word_at : goal.expressions::later_conditions-returns-then-not-is_word_at
expressions::later_conditions-returns-then-not-is_word_at g t c =
    loop_stops (expr_tree c.args.source.now.names) (word_kind (codes "AND") ∷ []) (read_behind (read_the_word (codes "AND")) (read_not c.args.room (nested (c.args.room - 1)))) (c.args.room - c.loop.counter) c.loop.parts.items
    (point c.loop.at (queries_view c.args.source.now.names c.loop.exists.items)) (drop c.loop.at c.args.source.now.tokens) _ c.loop.invariant (sym c.is_word_at.ensures.stands ∙ c.if-not-is_word_at.true)

pub expressions::later_conditions-returns-in_err-part : goal.expressions::later_conditions-returns-in_err-part
expressions::later_conditions-returns-in_err-part g t c =
    loop_with_exits (λ parts. map (expr_tree c.args.source.now.names) parts.items) (expr_tree c.args.source.now.names)
    (queries_view c.args.source.now.names c.later_condition.new.exists.items) (queries_view c.args.source.now.names c.later_condition.new.exists.items) c.args.source.now.tokens (word_kind (codes "AND") ∷ []) (read_behind (read_the_word (codes "AND")) (read_not c.args.room (nested (c.args.room - 1))))
    c.args.room c.loop.counter (map (expr_tree c.args.source.now.names) c.loop.parts.items) (point c.loop.at (queries_view c.args.source.now.names c.loop.exists.items)) (drop c.loop.at c.args.source.now.tokens) _ c.in_err-part.field-0.0 c.from_residual-in_err-part.result
    (err_from_is_err_and c.from_residual-in_err-part.result c.from_residual-in_err-part.ensures.1)
    c.loop.invariant c.loop-test.true (sym c.is_word_at.ensures.stands ∙ c.if-not-is_word_at.false) c.in_err-part.ensures

pub expressions::later_conditions-loop-preserved : goal.expressions::later_conditions-loop-preserved
expressions::later_conditions-loop-preserved g t c =
    loop_goes_on (expr_tree c.args.source.now.names) (word_kind (codes "AND") ∷ []) (read_behind (read_the_word (codes "AND")) (read_not c.args.room (nested (c.args.room - 1)))) c.args.room c.loop.counter c.loop.parts.items c.push.new.self.items c.in_ok-part.part
    (point c.loop.at (queries_view c.args.source.now.names c.loop.exists.items)) (point c.in_ok-part.next (queries_view c.args.source.now.names c.later_condition.new.exists.items)) (drop c.loop.at c.args.source.now.tokens) (drop c.in_ok-part.next c.args.source.now.tokens) _
    c.loop.invariant c.loop-test.true (sym c.is_word_at.ensures.stands ∙ c.if-not-is_word_at.false) c.in_ok-part.ensures c.in_ok-push.ensures.items

pub expressions::later_sum_parts-returns-then-not-is_sign_at : goal.expressions::later_sum_parts-returns-then-not-is_sign_at
expressions::later_sum_parts-returns-then-not-is_sign_at g t c =
    loop_stops (sum_part_tree c.args.source.now.names) (mark_kind mark.Plus ∷ mark_kind mark.Minus ∷ []) (read_sum_part c.args.room (nested (c.args.room - 1))) (c.args.room - c.loop.counter) c.loop.parts.items
    (point c.loop.at (queries_view c.args.source.now.names c.loop.exists.items)) (drop c.loop.at c.args.source.now.tokens) _ c.loop.invariant (sym c.is_sign_at.ensures ∙ c.if-not-is_sign_at.true)

pub expressions::later_sum_parts-returns-in_err-part : goal.expressions::later_sum_parts-returns-in_err-part
expressions::later_sum_parts-returns-in_err-part g t c =
    loop_with_exits (λ parts. map (sum_part_tree c.args.source.now.names) parts.items) (sum_part_tree c.args.source.now.names)
    (queries_view c.args.source.now.names c.later_sum_part.new.exists.items) (queries_view c.args.source.now.names c.later_sum_part.new.exists.items) c.args.source.now.tokens (mark_kind mark.Plus ∷ mark_kind mark.Minus ∷ []) (read_sum_part c.args.room (nested (c.args.room - 1)))
    c.args.room c.loop.counter (map (sum_part_tree c.args.source.now.names) c.loop.parts.items) (point c.loop.at (queries_view c.args.source.now.names c.loop.exists.items)) (drop c.loop.at c.args.source.now.tokens) _ c.in_err-part.field-0.0 c.from_residual.result
    (err_from_is_err_and c.from_residual.result c.from_residual.ensures.1)
    c.loop.invariant c.loop-test.true (sym c.is_sign_at.ensures ∙ c.if-not-is_sign_at.false) c.in_err-part.ensures

pub expressions::later_sum_parts-loop-preserved : goal.expressions::later_sum_parts-loop-preserved
expressions::later_sum_parts-loop-preserved g t c =
    loop_goes_on (sum_part_tree c.args.source.now.names) (mark_kind mark.Plus ∷ mark_kind mark.Minus ∷ []) (read_sum_part c.args.room (nested (c.args.room - 1))) c.args.room c.loop.counter c.loop.parts.items c.push.new.self.items c.in_ok-part.part
    (point c.loop.at (queries_view c.args.source.now.names c.loop.exists.items)) (point c.in_ok-part.next (queries_view c.args.source.now.names c.later_sum_part.new.exists.items)) (drop c.loop.at c.args.source.now.tokens) (drop c.in_ok-part.next c.args.source.now.tokens) _
    c.loop.invariant c.loop-test.true (sym c.is_sign_at.ensures ∙ c.if-not-is_sign_at.false) c.in_ok-part.ensures c.in_ok-push.ensures.items

pub expressions::later_product_parts-returns-then-not-is_product_op_at : goal.expressions::later_product_parts-returns-then-not-is_product_op_at
expressions::later_product_parts-returns-then-not-is_product_op_at g t c =
    loop_stops (product_part_tree c.args.source.now.names) product_kinds (read_product_part (nested (c.args.room - 1))) (c.args.room - c.loop.counter) c.loop.parts.items
    (point c.loop.at (queries_view c.args.source.now.names c.loop.exists.items)) (drop c.loop.at c.args.source.now.tokens) _ c.loop.invariant (sym c.is_product_op_at.ensures ∙ c.if-not-is_product_op_at.true)

pub expressions::later_product_parts-returns-in_err-part : goal.expressions::later_product_parts-returns-in_err-part
expressions::later_product_parts-returns-in_err-part g t c =
    loop_with_exits (λ parts. map (product_part_tree c.args.source.now.names) parts.items) (product_part_tree c.args.source.now.names)
    (queries_view c.args.source.now.names c.later_product_part.new.exists.items) (queries_view c.args.source.now.names c.later_product_part.new.exists.items) c.args.source.now.tokens product_kinds (read_product_part (nested (c.args.room - 1)))
    c.args.room c.loop.counter (map (product_part_tree c.args.source.now.names) c.loop.parts.items) (point c.loop.at (queries_view c.args.source.now.names c.loop.exists.items)) (drop c.loop.at c.args.source.now.tokens) _ c.in_err-part.field-0.0 c.from_residual.result
    (err_from_is_err_and c.from_residual.result c.from_residual.ensures.1)
    c.loop.invariant c.loop-test.true (sym c.is_product_op_at.ensures ∙ c.if-not-is_product_op_at.false) c.in_err-part.ensures

pub expressions::later_product_parts-loop-preserved : goal.expressions::later_product_parts-loop-preserved
expressions::later_product_parts-loop-preserved g t c =
    loop_goes_on (product_part_tree c.args.source.now.names) product_kinds (read_product_part (nested (c.args.room - 1))) c.args.room c.loop.counter c.loop.parts.items c.push.new.self.items c.in_ok-part.part
    (point c.loop.at (queries_view c.args.source.now.names c.loop.exists.items)) (point c.in_ok-part.next (queries_view c.args.source.now.names c.later_product_part.new.exists.items)) (drop c.loop.at c.args.source.now.tokens) (drop c.in_ok-part.next c.args.source.now.tokens) _
    c.loop.invariant c.loop-test.true (sym c.is_product_op_at.ensures ∙ c.if-not-is_product_op_at.false) c.in_ok-part.ensures c.in_ok-push.ensures.items
