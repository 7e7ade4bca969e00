use Rattle.gc_expr.specs.Views.{expr_tree, sum_part_tree, product_part_tree}
use Rattle.gc_parse_readers.specs.Kinds.{mark_kind, word_kind}
use Rattle.gc_parse_readers.specs.Readers.{in_front, read_many, read_behind, read_the_word}
use Rattle.gc_parse_readers.specs.ExpressionReaders.{product_kinds, read_and, read_not, read_sum_part, read_product_part}
use Rattle.gc_parse_readers.specs.QueryReaders.{nested}
use Rattle.gc_parse_readers.specs.Points.{point}
use Rattle.gc_parse_source.specs.Results.{queries_view}
use Rattle.std.proofs.Common.{◌≡◌, ◌+◌, ◌*◌, ◌-◌, [], ◌∷◌, codes, drop, map}
use Rattle.gc_lex.specs.declared.token.Mark.TheVariants as mark
use Rattle.gc_parse_expressions.proofs.+expression.Given as goal

-- brackets take one from the room
abbrev pub decreases-primaries::in_parentheses : goal.decreases-primaries::in_parentheses
decreases-primaries::in_parentheses g l = 64 * l.room + 1

abbrev pub decreases-primaries::index : goal.decreases-primaries::index
decreases-primaries::index g l = 64 * l.room + 1

abbrev pub decreases-primaries::aggregate : goal.decreases-primaries::aggregate
decreases-primaries::aggregate g l = 64 * l.room + 2

abbrev pub decreases-primaries::node_at : goal.decreases-primaries::node_at
decreases-primaries::node_at g l = 64 * l.room + 2

abbrev pub decreases-primaries::edge_at : goal.decreases-primaries::edge_at
decreases-primaries::edge_at g l = 64 * l.room + 2

abbrev pub decreases-primaries::call : goal.decreases-primaries::call
decreases-primaries::call g l = 64 * l.room + 3

abbrev pub decreases-primaries::primary : goal.decreases-primaries::primary
decreases-primaries::primary g l = 64 * l.room + 4

abbrev pub decreases-primaries::postfix : goal.decreases-primaries::postfix
decreases-primaries::postfix g l = 64 * l.room + 5

abbrev pub decreases-primaries::negative : goal.decreases-primaries::negative
decreases-primaries::negative g l = 64 * l.room + 6

abbrev pub decreases-primaries::inner_expression : goal.decreases-primaries::inner_expression
decreases-primaries::inner_expression g l = 64 * l.room

abbrev pub decreases-expressions::later_product_part : goal.decreases-expressions::later_product_part
decreases-expressions::later_product_part g l = 64 * l.room + 7

abbrev pub decreases-expressions::later_product_parts : goal.decreases-expressions::later_product_parts
decreases-expressions::later_product_parts g l = 64 * l.room + 8

abbrev pub decreases-expressions::product : goal.decreases-expressions::product
decreases-expressions::product g l = 64 * l.room + 9

abbrev pub decreases-expressions::later_sum_part : goal.decreases-expressions::later_sum_part
decreases-expressions::later_sum_part g l = 64 * l.room + 10

abbrev pub decreases-expressions::later_sum_parts : goal.decreases-expressions::later_sum_parts
decreases-expressions::later_sum_parts g l = 64 * l.room + 11

abbrev pub decreases-expressions::sum : goal.decreases-expressions::sum
decreases-expressions::sum g l = 64 * l.room + 12

abbrev pub decreases-expressions::compared : goal.decreases-expressions::compared
decreases-expressions::compared g l = 64 * l.room + 13

abbrev pub decreases-expressions::negation : goal.decreases-expressions::negation
decreases-expressions::negation g l = 64 * l.room + 14

abbrev pub decreases-expressions::later_condition : goal.decreases-expressions::later_condition
decreases-expressions::later_condition g l = 64 * l.room + 15

abbrev pub decreases-expressions::later_conditions : goal.decreases-expressions::later_conditions
decreases-expressions::later_conditions g l = 64 * l.room + 16

abbrev pub decreases-expressions::conjunction : goal.decreases-expressions::conjunction
decreases-expressions::conjunction g l = 64 * l.room + 17

abbrev pub decreases-expressions::later_alternative : goal.decreases-expressions::later_alternative
decreases-expressions::later_alternative g l = 64 * l.room + 18

abbrev pub decreases-expressions::later_alternatives : goal.decreases-expressions::later_alternatives
decreases-expressions::later_alternatives g l = 64 * l.room + 19

abbrev pub decreases-expressions::expression : goal.decreases-expressions::expression
decreases-expressions::expression g l = 64 * l.room + 20

-- what was read and what is still to be read are all that the reader gives
abbrev pub invariant-expressions::later_alternatives-loop : goal.invariant-expressions::later_alternatives-loop
invariant-expressions::later_alternatives-loop g l =
    in_front (map (expr_tree l.source.names) l.parts.items) (read_many (word_kind (codes "OR") ∷ []) (read_behind (read_the_word (codes "OR")) (read_and l.room (nested (l.room - 1)))) (l.room - l.counter) (point l.at (queries_view l.source.names l.exists.items)) (drop l.at l.source.tokens))
    ≡ in_front (expr_tree l.source.names l.fn.first ∷ []) (read_many (word_kind (codes "OR") ∷ []) (read_behind (read_the_word (codes "OR")) (read_and l.room (nested (l.room - 1)))) l.room (point l.from (queries_view l.source.names l.fn.exists.items)) (drop l.from l.source.tokens))

abbrev pub invariant-expressions::later_conditions-loop : goal.invariant-expressions::later_conditions-loop
invariant-expressions::later_conditions-loop g l =
    in_front (map (expr_tree l.source.names) l.parts.items) (read_many (word_kind (codes "AND") ∷ []) (read_behind (read_the_word (codes "AND")) (read_not l.room (nested (l.room - 1)))) (l.room - l.counter) (point l.at (queries_view l.source.names l.exists.items)) (drop l.at l.source.tokens))
    ≡ in_front (expr_tree l.source.names l.fn.first ∷ []) (read_many (word_kind (codes "AND") ∷ []) (read_behind (read_the_word (codes "AND")) (read_not l.room (nested (l.room - 1)))) l.room (point l.from (queries_view l.source.names l.fn.exists.items)) (drop l.from l.source.tokens))

abbrev pub invariant-expressions::later_sum_parts-loop : goal.invariant-expressions::later_sum_parts-loop
invariant-expressions::later_sum_parts-loop g l =
    in_front (map (sum_part_tree l.source.names) l.parts.items) (read_many (mark_kind mark.Plus ∷ mark_kind mark.Minus ∷ []) (read_sum_part l.room (nested (l.room - 1))) (l.room - l.counter) (point l.at (queries_view l.source.names l.exists.items)) (drop l.at l.source.tokens))
    ≡ in_front [] (read_many (mark_kind mark.Plus ∷ mark_kind mark.Minus ∷ []) (read_sum_part l.room (nested (l.room - 1))) l.room (point l.from (queries_view l.source.names l.fn.exists.items)) (drop l.from l.source.tokens))

abbrev pub invariant-expressions::later_product_parts-loop : goal.invariant-expressions::later_product_parts-loop
invariant-expressions::later_product_parts-loop g l =
    in_front (map (product_part_tree l.source.names) l.parts.items) (read_many product_kinds (read_product_part (nested (l.room - 1))) (l.room - l.counter) (point l.at (queries_view l.source.names l.exists.items)) (drop l.at l.source.tokens))
    ≡ in_front [] (read_many product_kinds (read_product_part (nested (l.room - 1))) l.room (point l.from (queries_view l.source.names l.fn.exists.items)) (drop l.from l.source.tokens))
