-- The readers of queries are right.
use Rattle.std.proofs.Common.{◌≡◌, refl, ℕ, zero, suc, Bool, true, false, List, [], ◌∷◌, ◌++◌, codes, Option}
use Rattle.std.proofs.lemmas.Bool.{eq-eqb}
use Rattle.gc_lex.specs.declared.token.Mark.TheVariants as mark
use Rattle.gc_ast.specs.Trees as tree
use Rattle.gc_ast.specs.Trees.{Tree, AQuery, AHead, AStatement}
use Rattle.gc_grammar.specs.Words.{Lang, ◌⋅◌, ◌⇒◌, ◌▸◌, optional, many, the_word}
use Rattle.gc_parse_readers.specs.Kinds.{mark_kind, word_kind, name_kind, covers}
use Rattle.gc_parse_readers.specs.Readers.{Reader, read_both, read_made, read_behind, read_many, read_the_word}
use Rattle.gc_grammar.specs.Expressions.{Expr, Inside, formula}
use Rattle.gc_grammar.specs.Queries.{where_, block, optional_block, basic, term, named_query, path_head, head, set_op, next_term, query, statement, within}
use Rattle.gc_parse_readers.specs.Right.{Right, Outline, one_of}
use Rattle.gc_parse_readers.proofs.RightTokens.{right_mark, right_the_word}
use Rattle.gc_parse_readers.proofs.RightBoth.{right_name, right_both, right_made, right_behind, right_as}
use Rattle.gc_parse_readers.proofs.RightChoices.{right_either, right_optional}
use Rattle.gc_parse_readers.proofs.RightMany.{right_many, right_separated}
use Rattle.gc_parse_readers.proofs.RightBrackets.{Never, StepsRight, right_nested}
use Rattle.gc_parse_readers.proofs.RightFork.{Way, right_fork}
use Rattle.gc_parse_readers.proofs.Taken.{taken_the_word}
use Rattle.gc_parse_readers.proofs.Ways.{way_last, way_not_last, way_made, way_token_behind}
use Rattle.gc_parse_readers.proofs.WayChoices.{way_either_second, way_many}
use Rattle.gc_parse_readers.specs.ExpressionReaders.{Nested}
use Rattle.gc_parse_readers.specs.QueryReaders.{read_condition_if, read_where, read_block, read_optional_block, read_basic, read_term, read_named_query, read_path_head, read_head, read_set_op, set_op_kinds, read_next_term, read_query, nested, read_view_statement, read_statement}
use Rattle.gc_parse_readers.proofs.Outlines.{right_outlined, expr_more, expr_outline, block_more, block_outline, term_more, term_kinds, term_outline, head_kinds, head_more, query_outline, statement_outline, InsideRight}
use Rattle.gc_parse_readers.proofs.ExpressionRight.{right_in_parentheses, right_expr, right_formula}
use Rattle.gc_parse_readers.proofs.PatternRight.{right_vchain, right_located}
use Rattle.gc_parse_readers.proofs.ConstructRight.{right_item}

-- a word and an expression, if they are there
abbrev condition_if : List ℕ → Inside → Lang (Option (Tree tree.AFormula))
condition_if word inside = optional (the_word word ▸ formula inside)

abbrev condition_outline : List ℕ → Outline
condition_outline word = record { first = word_kind word ∷ []; empty = true; more = word_kind word ∷ expr_more }

right_condition_if : {j J : ℕ} {L M : Inside} {p q : Nested} (word : List ℕ) → InsideRight j J L M p q
    → Right (suc j) (suc J) (condition_if word L) (condition_if word M) (read_condition_if word (suc j) p) (read_condition_if word (suc J) q) (condition_outline word)
unfolding read_condition_if
right_condition_if word inside =
    let same : covers (word_kind word ∷ []) (word_kind word ∷ []) ≡ true = rw (eq-eqb (word_kind word) (word_kind word) refl) refl in
    right_optional (word_kind word ∷ []) same same refl (right_behind (right_the_word word) (right_formula inside) refl)

right_where : {j J : ℕ} {L M : Inside} {p q : Nested} → InsideRight j J L M p q
    → Right (suc j) (suc J) (where_ L) (where_ M) (read_where (suc j) p) (read_where (suc J) q) (condition_outline (codes "WHERE"))
unfolding read_where
right_where inside = right_made (right_condition_if (codes "WHERE") inside)

right_block : {j J : ℕ} {L M : Inside} {p q : Nested} → InsideRight j J L M p q
    → Right (suc j) (suc J) (block L) (block M) (read_block (suc j) p) (read_block (suc J) q) block_outline
unfolding read_block
right_block inside =
    right_outlined refl refl refl
    (right_made
    (right_both (right_separated (mark_kind mark.Comma ∷ []) refl refl refl refl refl refl right_located (right_mark mark.Comma)) (right_where inside) refl))

right_optional_block : {j J : ℕ} {L M : Inside} {p q : Nested} → InsideRight j J L M p q
    → Right (suc j) (suc J) (optional_block L) (optional_block M) (read_optional_block (suc j) p) (read_optional_block (suc J) q)
    (record { first = word_kind (codes "OPTIONAL") ∷ []; empty = false; more = block_more })
unfolding read_optional_block
right_optional_block inside = right_made (right_behind (right_the_word (codes "OPTIONAL")) (right_block inside) refl)

right_basic : {j J : ℕ} {L M : Inside} {p q : Nested} → InsideRight j J L M p q
    → Right (suc j) (suc J) (basic L) (basic M) (read_basic (suc j) p) (read_basic (suc J) q)
    (record { first = word_kind (codes "CONSTRUCT") ∷ []; empty = false; more = term_more })
unfolding read_basic
right_basic inside =
    right_outlined refl refl refl
    (right_made
    (right_both
    (right_behind (right_the_word (codes "CONSTRUCT"))
    (right_separated (mark_kind mark.Comma ∷ []) refl refl refl refl refl refl (right_item inside) (right_mark mark.Comma)) refl)
    (right_both (right_behind (right_the_word (codes "MATCH")) (right_block inside) refl)
    (right_many (word_kind (codes "OPTIONAL") ∷ []) refl refl refl refl (right_optional_block inside)) refl) refl))

right_term : {j J : ℕ} {L M : Inside} {p q : Nested} → InsideRight j J L M p q
    → Right (suc j) (suc J) (term L) (term M) (read_term (suc j) p) (read_term (suc J) q) term_outline
unfolding read_term
right_term inside =
    right_either (word_kind (codes "CONSTRUCT") ∷ []) refl refl refl refl (right_made (right_basic inside))
    (right_either (name_kind ∷ []) refl refl refl refl (right_made right_name) (right_made (right_in_parentheses refl inside.query)))

right_named_query : {j J : ℕ} {L M : Inside} {p q : Nested} → InsideRight j J L M p q
    → Right (suc j) (suc J) (named_query L) (named_query M) (read_named_query p) (read_named_query q) (one_of (name_kind ∷ []))
unfolding read_named_query
right_named_query inside =
    right_both right_name (right_behind (right_the_word (codes "AS")) (right_in_parentheses refl inside.query) refl) refl

right_path_head : {j J : ℕ} {L M : Inside} {p q : Nested} → InsideRight j J L M p q
    → Right (suc j) (suc J) (path_head L) (path_head M) (read_path_head (suc j) p) (read_path_head (suc J) q)
    (record { first = word_kind (codes "PATH") ∷ []; empty = false; more = head_more })
unfolding read_path_head
right_path_head inside =
    right_outlined refl refl refl
    (right_made
    (right_both (right_behind (right_the_word (codes "PATH")) right_name refl)
    (right_both
    (right_behind (right_mark mark.Equals)
    (right_separated (mark_kind mark.Comma ∷ []) refl refl refl refl refl refl right_vchain (right_mark mark.Comma)) refl)
    (right_both (right_where inside) (right_condition_if (codes "COST") inside) refl) refl) refl))

-- the other head
abbrev graph_head : Inside → Lang (Tree AHead)
graph_head inside = (the_word (codes "GRAPH") ▸ named_query inside) ⇒ λ n v. tree.GraphHead v.0 v.1

abbrev read_graph_head : Nested → Reader (Tree AHead)
read_graph_head inside = read_made (read_behind (read_the_word (codes "GRAPH")) (read_named_query inside)) λ n v. tree.GraphHead v.0 v.1

right_graph_head : {j J : ℕ} {L M : Inside} {p q : Nested} → InsideRight j J L M p q
    → Right (suc j) (suc J) (graph_head L) (graph_head M) (read_graph_head p) (read_graph_head q) (one_of (word_kind (codes "GRAPH") ∷ []))
right_graph_head inside = right_made (right_behind (right_the_word (codes "GRAPH")) (right_named_query inside) refl)

right_head : {j J : ℕ} {L M : Inside} {p q : Nested} → InsideRight j J L M p q
    → Right (suc j) (suc J) (head L) (head M) (read_head (suc j) p) (read_head (suc J) q)
    (record { first = head_kinds; empty = false; more = head_more })
unfolding read_head
right_head inside = right_either (word_kind (codes "PATH") ∷ []) refl refl refl refl (right_path_head inside) (right_graph_head inside)

-- no head begins with `GRAPH` `VIEW`
way_head : {j J : ℕ} {L M : Inside} {p q : Nested} → InsideRight j J L M p q
    → Way (suc j) (suc J) ((word_kind (codes "GRAPH") ∷ []) ∷ []) (word_kind (codes "VIEW") ∷ []) false (head L) (head M) (read_head (suc j) p)
unfolding read_head
way_head inside =
    way_either_second (word_kind (codes "PATH") ∷ []) refl refl refl (right_path_head inside)
    (way_made
    (way_token_behind refl (taken_the_word (codes "GRAPH") refl) (right_the_word (codes "GRAPH")) (way_not_last refl refl (right_named_query inside))))

right_set_op : {j J : ℕ} → Right j J set_op set_op read_set_op read_set_op (one_of set_op_kinds)
unfolding read_set_op
right_set_op =
    right_either (word_kind (codes "UNION") ∷ []) refl refl refl refl (right_as (right_the_word (codes "UNION")))
    (right_either (word_kind (codes "INTERSECT") ∷ []) refl refl refl refl (right_as (right_the_word (codes "INTERSECT")))
    (right_as (right_the_word (codes "MINUS"))))

right_next_term : {j J : ℕ} {L M : Inside} {p q : Nested} → InsideRight j J L M p q
    → Right (suc j) (suc J) (next_term L) (next_term M) (read_next_term (suc j) p) (read_next_term (suc J) q)
    (record { first = set_op_kinds; empty = false; more = term_more })
unfolding read_next_term
right_next_term inside = right_made (right_both right_set_op (right_term inside) refl)

-- a term, and others behind set operations
abbrev terms_outline : Outline
terms_outline = record { first = term_kinds; empty = false; more = set_op_kinds ++ term_more }

right_terms : {j J : ℕ} {L M : Inside} {p q : Nested} → InsideRight j J L M p q
    → Right (suc j) (suc J) (term L ⋅ many (next_term L)) (term M ⋅ many (next_term M))
    (read_both (read_term (suc j) p) (read_many set_op_kinds (read_next_term (suc j) p) (suc j)))
    (read_both (read_term (suc J) q) (read_many set_op_kinds (read_next_term (suc J) q) (suc J))) terms_outline
right_terms inside =
    right_outlined refl refl refl (right_both (right_term inside) (right_many set_op_kinds refl refl refl refl (right_next_term inside)) refl)

right_query : {j J : ℕ} {L M : Inside} {p q : Nested} → InsideRight j J L M p q
    → Right (suc j) (suc J) (query L) (query M) (read_query (suc j) p) (read_query (suc J) q) query_outline
unfolding read_query
right_query inside = right_made (right_both (right_many head_kinds refl refl refl refl (right_head inside)) (right_terms inside) refl)

-- the two kinds of what brackets hold: an expression (true) or a query
abbrev Held : Bool → Type 0
Held true = Expr
Held false = Tree AQuery

abbrev held : (is_expr : Bool) → Inside → Lang (Held is_expr)
held true inside = inside.expr
held false inside = inside.query

abbrev read_held : (is_expr : Bool) → Nested → Reader (Held is_expr)
read_held true inside = inside.expr
read_held false inside = inside.query

abbrev held_outline : Bool → Outline
held_outline true = expr_outline
held_outline false = query_outline

held_never : (is_expr : Bool) → Never (held is_expr (within zero))
held_never true start end ts a spelled = spelled
held_never false start end ts a spelled = spelled

held_step : StepsRight (λ is_expr depth. held is_expr (within depth)) (λ is_expr room. read_held is_expr (nested room)) held_outline
unfolding nested
held_step j J d inside true = right_expr (record { expr = inside true; query = inside false })
held_step j J d inside false = right_query (record { expr = inside true; query = inside false })

held_right : (j J d : ℕ) (is_expr : Bool)
    → Right j J (held is_expr (within j)) (held is_expr (within d)) (read_held is_expr (nested j)) (read_held is_expr (nested J)) (held_outline is_expr)
held_right j J d is_expr =
    right_nested (λ is_expr depth. held is_expr (within depth)) (λ is_expr room. read_held is_expr (nested room)) held_outline held_never held_step j J d is_expr

-- expressions and queries of all depths
pub right_nested_pair : (j J d : ℕ) → InsideRight j J (within j) (within d) (nested j) (nested J)
right_nested_pair j J d = record { expr = held_right j J d true; query = held_right j J d false }

-- the two statements
abbrev view_statement : Inside → Lang (Tree AStatement)
view_statement inside = (the_word (codes "GRAPH") ▸ the_word (codes "VIEW") ▸ named_query inside) ⇒ λ n v. tree.View v.0 v.1

right_view_statement : {j J : ℕ} {L M : Inside} {p q : Nested} → InsideRight j J L M p q
    → Right (suc j) (suc J) (view_statement L) (view_statement M) (read_view_statement p) (read_view_statement q) (one_of (word_kind (codes "GRAPH") ∷ []))
unfolding read_view_statement
right_view_statement inside =
    right_made
    (right_behind (right_the_word (codes "GRAPH")) (right_behind (right_the_word (codes "VIEW")) (right_named_query inside) refl) refl)

way_view_statement : {j J : ℕ} {L M : Inside} {p q : Nested} → InsideRight j J L M p q
    → Way (suc j) (suc J) ((word_kind (codes "GRAPH") ∷ []) ∷ []) (word_kind (codes "VIEW") ∷ []) true (view_statement L) (view_statement M) (read_view_statement p)
unfolding read_view_statement
way_view_statement inside =
    way_made
    (way_token_behind refl (taken_the_word (codes "GRAPH") refl) (right_the_word (codes "GRAPH"))
    (way_last refl refl (right_behind (right_the_word (codes "VIEW")) (right_named_query inside) refl)))

way_query : {j J : ℕ} {L M : Inside} {p q : Nested} → InsideRight j J L M p q
    → Way (suc j) (suc J) ((word_kind (codes "GRAPH") ∷ []) ∷ []) (word_kind (codes "VIEW") ∷ []) false (query L) (query M) (read_query (suc j) p)
unfolding read_query
way_query inside = way_made (way_many head_kinds refl refl refl (way_head inside) (right_terms inside))

right_any_statement : {j J : ℕ} {L M : Inside} {p q : Nested} → InsideRight j J L M p q
    → Right (suc j) (suc J) (statement L) (statement M) (read_statement (suc j) p) (read_statement (suc J) q) statement_outline
unfolding read_statement
right_any_statement inside =
    right_outlined refl refl refl
    (right_fork ((word_kind (codes "GRAPH") ∷ []) ∷ []) (word_kind (codes "VIEW") ∷ []) (way_view_statement inside) (way_made (way_query inside))
    (right_view_statement inside) (right_made (right_query inside)))

-- statements of all depths
pub right_statement : (j J d : ℕ)
    → Right (suc j) (suc J) (statement (within j)) (statement (within d)) (read_statement (suc j) (nested j)) (read_statement (suc J) (nested J)) statement_outline
right_statement j J d = right_any_statement (right_nested_pair j J d)
