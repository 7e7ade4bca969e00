-- The readers of queries and statements are stuck only behind a beginning of one.
use Rattle.std.proofs.Common.{arith, ℕ, zero, suc, ◌≤◌, not-suc-le-zero, codes, List, [], ◌∷◌}
use Rattle.gc_lex.specs.declared.token.Mark.TheVariants as mark
use Rattle.gc_grammar.specs.Words.{optional, ◌▸◌, the_word}
use Rattle.gc_grammar.specs.Expressions.{Inside, formula}
use Rattle.gc_grammar.specs.Queries.{where_, block, optional_block, basic, term, named_query, head, set_op, query, statement, within}
use Rattle.gc_parse_readers.specs.Kinds.{mark_kind, word_kind, name_kind}
use Rattle.gc_parse_readers.specs.ExpressionReaders.{Nested}
use Rattle.gc_parse_readers.specs.QueryReaders.{set_op_kinds, view_kinds, read_condition_if, read_where, read_block, read_optional_block, read_basic, read_term, read_named_query, read_path_head, read_head, read_set_op, read_next_term, read_query, nested, read_view_statement, read_statement}
use Rattle.gc_parse_readers.proofs.Beginnings.{HasWord, Viable}
use Rattle.gc_parse_readers.proofs.Words.{has_both, has_made, has_first, has_second, has_no}
use Rattle.gc_parse_readers.proofs.ExpressionViable.{InsideViable, viable_in_parentheses, viable_expr, viable_formula, has_expr}
use Rattle.gc_parse_readers.proofs.PatternViable.{viable_vchain, viable_located}
use Rattle.gc_parse_readers.proofs.ConstructViable.{viable_item}
use Rattle.gc_parse_readers.proofs.ViableParts.{viable_mark, viable_the_word, viable_name, viable_both, viable_made, viable_behind, viable_as, viable_either, viable_fork, viable_optional}
use Rattle.gc_parse_readers.proofs.ViableLists.{viable_many, viable_separated}

-- `WHERE` or `COST` and an expression, if they are there
viable_condition_if : {j : ℕ} {L : Inside} {p : Nested} (word : List ℕ) → InsideViable j L p
    → Viable (suc j) (optional (the_word word ▸ formula L)) (read_condition_if word (suc j) p)
unfolding read_condition_if
viable_condition_if word inside = viable_optional (word_kind word ∷ []) (viable_behind (viable_the_word word) (viable_formula inside))

viable_where : {j : ℕ} {L : Inside} {p : Nested} → InsideViable j L p → Viable (suc j) (where_ L) (read_where (suc j) p)
unfolding read_where
viable_where inside = viable_made (viable_condition_if (codes "WHERE") inside)

viable_block : {j : ℕ} {L : Inside} {p : Nested} → InsideViable j L p → Viable (suc j) (block L) (read_block (suc j) p)
unfolding read_block
viable_block {j = j} inside =
    viable_made (viable_both (viable_separated (mark_kind mark.Comma ∷ []) (suc j) viable_located (viable_mark mark.Comma)) (viable_where inside))

viable_optional_block : {j : ℕ} {L : Inside} {p : Nested} → InsideViable j L p → Viable (suc j) (optional_block L) (read_optional_block (suc j) p)
unfolding read_optional_block
viable_optional_block inside = viable_made (viable_behind (viable_the_word (codes "OPTIONAL")) (viable_block inside))

viable_basic : {j : ℕ} {L : Inside} {p : Nested} → InsideViable j L p → Viable (suc j) (basic L) (read_basic (suc j) p)
unfolding read_basic
viable_basic {j = j} inside =
    viable_made
    (viable_both
    (viable_behind (viable_the_word (codes "CONSTRUCT")) (viable_separated (mark_kind mark.Comma ∷ []) (suc j) (viable_item inside) (viable_mark mark.Comma)))
    (viable_both (viable_behind (viable_the_word (codes "MATCH")) (viable_block inside))
    (viable_many (word_kind (codes "OPTIONAL") ∷ []) (suc j) (viable_optional_block inside))))

viable_term : {j : ℕ} {L : Inside} {p : Nested} → InsideViable j L p → Viable (suc j) (term L) (read_term (suc j) p)
unfolding read_term
viable_term inside =
    viable_either (word_kind (codes "CONSTRUCT") ∷ []) (viable_made (viable_basic inside))
    (viable_either (name_kind ∷ []) (viable_made viable_name) (viable_made (viable_in_parentheses inside.query)))

viable_named_query : {j : ℕ} {L : Inside} {p : Nested} → InsideViable j L p → Viable (suc j) (named_query L) (read_named_query p)
unfolding read_named_query
viable_named_query inside = viable_both viable_name (viable_behind (viable_the_word (codes "AS")) (viable_in_parentheses inside.query))

viable_head : {j : ℕ} {L : Inside} {p : Nested} → InsideViable j L p → Viable (suc j) (head L) (read_head (suc j) p)
unfolding read_head read_path_head
viable_head {j = j} inside =
    viable_either (word_kind (codes "PATH") ∷ [])
    (viable_made
    (viable_both (viable_behind (viable_the_word (codes "PATH")) viable_name)
    (viable_both (viable_behind (viable_mark mark.Equals) (viable_separated (mark_kind mark.Comma ∷ []) (suc j) viable_vchain (viable_mark mark.Comma)))
    (viable_both (viable_where inside) (viable_condition_if (codes "COST") inside)))))
    (viable_made (viable_behind (viable_the_word (codes "GRAPH")) (viable_named_query inside)))

viable_set_op : {j : ℕ} → Viable j set_op read_set_op
unfolding read_set_op
viable_set_op =
    viable_either (word_kind (codes "UNION") ∷ []) (viable_as (viable_the_word (codes "UNION")))
    (viable_either (word_kind (codes "INTERSECT") ∷ []) (viable_as (viable_the_word (codes "INTERSECT"))) (viable_as (viable_the_word (codes "MINUS"))))

viable_query : {j : ℕ} {L : Inside} {p : Nested} → InsideViable j L p → Viable (suc j) (query L) (read_query (suc j) p)
unfolding read_query read_next_term
viable_query {j = j} inside =
    viable_made
    (viable_both (viable_many (word_kind (codes "PATH") ∷ word_kind (codes "GRAPH") ∷ []) (suc j) (viable_head inside))
    (viable_both (viable_term inside) (viable_many set_op_kinds (suc j) (viable_made (viable_both viable_set_op (viable_term inside))))))

-- the name of a graph, whatever brackets may hold
has_query : (L : Inside) → HasWord (query L)
has_query L =
    has_made (has_both has_no (has_both (has_second (has_first (has_made (viable_name {j = 0}).word))) has_no))

-- what brackets may hold, of some depth more than the room
pub viable_inside : (j d : ℕ) → j ≤ d → InsideViable j (within (suc d)) (nested j)
unfolding nested
viable_inside zero d small = record {
  expr = record { word = has_expr (within d); goes = λ start ts short. absurd (not-suc-le-zero short) };
  query = record { word = has_query (within d); goes = λ start ts short. absurd (not-suc-le-zero short) };
}
viable_inside (suc j) zero small = absurd (not-suc-le-zero small)
viable_inside (suc j) (suc d) small =
    let inside = viable_inside j d (omega (arith, small)) in
    record { expr = viable_expr inside; query = viable_query inside }

-- statements
pub viable_statement : {j : ℕ} {L : Inside} {p : Nested} → InsideViable j L p → Viable (suc j) (statement L) (read_statement (suc j) p)
unfolding read_statement read_view_statement
viable_statement inside =
    viable_fork view_kinds
    (viable_made (viable_behind (viable_the_word (codes "GRAPH")) (viable_behind (viable_the_word (codes "VIEW")) (viable_named_query inside))))
    (viable_made (viable_query inside))
