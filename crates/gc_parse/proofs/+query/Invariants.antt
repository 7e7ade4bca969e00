use Rattle.gc_ast.specs.QueryViews.{optional_tree, head_tree, next_term_tree}
use Rattle.gc_parse_readers.specs.Kinds.{word_kind}
use Rattle.gc_parse_readers.specs.Readers.{in_front, read_many}
use Rattle.gc_parse_readers.specs.QueryReaders.{nested, read_optional_block, read_head, read_next_term, set_op_kinds}
use Rattle.gc_parse_readers.specs.Points.{bare}
use Rattle.std.proofs.Common.{◌≡◌, ◌+◌, ◌*◌, ◌-◌, [], ◌∷◌, codes, drop, map}
use Rattle.gc_parse.proofs.+query.Given as goal

-- brackets take one from the room
abbrev pub decreases-formulas::formula-queries : goal.decreases-formulas::formula-queries
decreases-formulas::formula-queries l = 14 * l.within + 14

abbrev pub decreases-formulas::formula : goal.decreases-formulas::formula
decreases-formulas::formula l = 14 * l.room + 1

abbrev pub decreases-formulas::condition_if-formulas : goal.decreases-formulas::condition_if-formulas
decreases-formulas::condition_if-formulas l = 14 * l.room + 2

abbrev pub decreases-formulas::construct_items-formulas : goal.decreases-formulas::construct_items-formulas
decreases-formulas::construct_items-formulas l = 14 * l.room + 2

abbrev pub decreases-formulas::condition_if : goal.decreases-formulas::condition_if
decreases-formulas::condition_if l = 14 * l.room + 3

abbrev pub decreases-formulas::construct_items : goal.decreases-formulas::construct_items
decreases-formulas::construct_items l = 14 * l.room + 3

abbrev pub decreases-blocks::block : goal.decreases-blocks::block
decreases-blocks::block l = 14 * l.room + 4

abbrev pub decreases-path_heads::filter_and_cost : goal.decreases-path_heads::filter_and_cost
decreases-path_heads::filter_and_cost l = 14 * l.room + 4

abbrev pub decreases-path_heads::path_head : goal.decreases-path_heads::path_head
decreases-path_heads::path_head l = 14 * l.room + 5

abbrev pub decreases-blocks::optional_block : goal.decreases-blocks::optional_block
decreases-blocks::optional_block l = 14 * l.room + 5

abbrev pub decreases-blocks::optional_blocks : goal.decreases-blocks::optional_blocks
decreases-blocks::optional_blocks l = 14 * l.room + 6

abbrev pub decreases-blocks::basic : goal.decreases-blocks::basic
decreases-blocks::basic l = 14 * l.room + 7

abbrev pub decreases-queries::bracketed_query : goal.decreases-queries::bracketed_query
decreases-queries::bracketed_query l = 14 * l.room + 8

abbrev pub decreases-queries::named_query : goal.decreases-queries::named_query
decreases-queries::named_query l = 14 * l.room + 9

abbrev pub decreases-queries::head : goal.decreases-queries::head
decreases-queries::head l = 14 * l.room + 10

abbrev pub decreases-queries::heads : goal.decreases-queries::heads
decreases-queries::heads l = 14 * l.room + 11

abbrev pub decreases-queries::term : goal.decreases-queries::term
decreases-queries::term l = 14 * l.room + 9

abbrev pub decreases-queries::next_term : goal.decreases-queries::next_term
decreases-queries::next_term l = 14 * l.room + 10

abbrev pub decreases-queries::next_terms : goal.decreases-queries::next_terms
decreases-queries::next_terms l = 14 * l.room + 11

abbrev pub decreases-queries::query : goal.decreases-queries::query
decreases-queries::query l = 14 * l.room + 12

abbrev pub decreases-queries::inner_query : goal.decreases-queries::inner_query
decreases-queries::inner_query l = 14 * l.room + 13

-- what was read and what is still to be read are all that the reader gives
abbrev pub invariant-blocks::optional_blocks-loop : goal.invariant-blocks::optional_blocks-loop
invariant-blocks::optional_blocks-loop l =
    in_front (map (optional_tree l.source.names) l.blocks.items) (read_many (word_kind (codes "OPTIONAL") ∷ []) (read_optional_block l.room (nested (l.room - 1))) (l.room - l.counter) (bare l.at) (drop l.at l.source.tokens))
    ≡ read_many (word_kind (codes "OPTIONAL") ∷ []) (read_optional_block l.room (nested (l.room - 1))) l.room (bare l.from) (drop l.from l.source.tokens)

abbrev pub invariant-queries::heads-loop : goal.invariant-queries::heads-loop
invariant-queries::heads-loop l =
    in_front (map (head_tree l.source.names) l.heads.items) (read_many (word_kind (codes "PATH") ∷ word_kind (codes "GRAPH") ∷ []) (read_head l.room (nested (l.room - 1))) (l.room - l.counter) (bare l.at) (drop l.at l.source.tokens))
    ≡ read_many (word_kind (codes "PATH") ∷ word_kind (codes "GRAPH") ∷ []) (read_head l.room (nested (l.room - 1))) l.room (bare l.from) (drop l.from l.source.tokens)

abbrev pub invariant-queries::next_terms-loop : goal.invariant-queries::next_terms-loop
invariant-queries::next_terms-loop l =
    in_front (map (next_term_tree l.source.names) l.terms.items) (read_many set_op_kinds (read_next_term l.room (nested (l.room - 1))) (l.room - l.counter) (bare l.at) (drop l.at l.source.tokens))
    ≡ read_many set_op_kinds (read_next_term l.room (nested (l.room - 1))) l.room (bare l.from) (drop l.from l.source.tokens)
