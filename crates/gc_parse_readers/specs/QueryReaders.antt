-- The readers of queries and files, a production each, in the words of the grammar's readers.
use Rattle.std.specs.Prelude.{ℕ, zero, suc, ◌-◌, List, [], ◌∷◌, codes, Option}
use Rattle.gc_lex.specs.declared.token.Mark.TheVariants as mark
use Rattle.gc_ast.specs.declared.query.SetOp.{SetOp}
use Rattle.gc_ast.specs.declared.query.SetOp.TheVariants.{Union, Intersect, Minus}
use Rattle.gc_ast.specs.Trees as tree
use Rattle.gc_ast.specs.Trees.{Tree, AStatement, AQuery, ANextTerm, ATerm, AHead, ABasic, ABlock, AFormula, AnOptional, Named, row, rows, maybe}
use Rattle.gc_parse_readers.specs.Kinds.{mark_kind, word_kind, name_kind}
use Rattle.gc_lex.specs.declared.token.Token.{Token}
use Rattle.gc_parse_readers.specs.Readers.{Reader, Reading, Got, stuck, read_both, read_made, read_behind, read_either, read_fork, read_optional, read_many, read_separated, read_as, read_mark, read_the_word, read_name}
use Rattle.gc_grammar.specs.Queries.{as_term, as_query, start}
use Rattle.gc_parse_readers.specs.ExpressionReaders.{Nested, read_formula, read_expr, read_in_parentheses}
use Rattle.gc_parse_readers.specs.PatternReaders.{read_vchain, read_located}
use Rattle.gc_parse_readers.specs.ConstructReaders.{read_item}

-- `WHERE` or `COST` and an expression, if they are there
unfoldable pub read_condition_if : List ℕ → ℕ → Nested → Reader (Option (Tree AFormula))
read_condition_if word room inside = read_optional (word_kind word ∷ []) (read_behind (read_the_word word) (read_formula room inside))

unfoldable pub read_where : ℕ → Nested → Reader (Tree (tree.RowOf AFormula))
read_where room inside = read_made (read_condition_if (codes "WHERE") room inside) λ n v. maybe v

unfoldable pub read_block : ℕ → Nested → Reader (Tree ABlock)
read_block room inside =
    read_made
    (read_both (read_separated (mark_kind mark.Comma ∷ []) (read_located room) (read_mark mark.Comma) room) (read_where room inside))
    λ n v. tree.Block (row v.0) v.1

unfoldable pub read_optional_block : ℕ → Nested → Reader (Tree AnOptional)
read_optional_block room inside =
    read_made (read_behind (read_the_word (codes "OPTIONAL")) (read_block room inside)) λ n v. tree.Optional n v

unfoldable pub read_basic : ℕ → Nested → Reader (Tree ABasic)
read_basic room inside =
    read_made
    (read_both
    (read_behind (read_the_word (codes "CONSTRUCT")) (read_separated (mark_kind mark.Comma ∷ []) (read_item room inside) (read_mark mark.Comma) room))
    (read_both (read_behind (read_the_word (codes "MATCH")) (read_block room inside))
    (read_many (word_kind (codes "OPTIONAL") ∷ []) (read_optional_block room inside) room)))
    λ n v. tree.Basic n (row v.0) v.1.0 (row v.1.1)

unfoldable pub read_term : ℕ → Nested → Reader (Tree ATerm)
read_term room inside =
    read_either (word_kind (codes "CONSTRUCT") ∷ []) (read_made (read_basic room inside) λ n v. tree.BasicTerm v)
    (read_either (name_kind ∷ []) (read_made read_name λ n v. tree.GraphTerm v)
    (read_made (read_in_parentheses inside.query) λ n v. as_term v))

unfoldable pub read_named_query : Nested → Reader (Named × Tree AQuery)
read_named_query inside = read_both read_name (read_behind (read_the_word (codes "AS")) (read_in_parentheses inside.query))

unfoldable pub read_path_head : ℕ → Nested → Reader (Tree AHead)
read_path_head room inside =
    read_made
    (read_both (read_behind (read_the_word (codes "PATH")) read_name)
    (read_both
    (read_behind (read_mark mark.Equals) (read_separated (mark_kind mark.Comma ∷ []) (read_vchain room) (read_mark mark.Comma) room))
    (read_both (read_where room inside) (read_condition_if (codes "COST") room inside))))
    λ n v. tree.PathHead v.0 (rows v.1.0) v.1.1.0 (maybe v.1.1.1)

unfoldable pub read_head : ℕ → Nested → Reader (Tree AHead)
read_head room inside =
    read_either (word_kind (codes "PATH") ∷ []) (read_path_head room inside)
    (read_made (read_behind (read_the_word (codes "GRAPH")) (read_named_query inside)) λ n v. tree.GraphHead v.0 v.1)

unfoldable pub read_set_op : Reader SetOp
read_set_op =
    read_either (word_kind (codes "UNION") ∷ []) (read_as (read_the_word (codes "UNION")) Union)
    (read_either (word_kind (codes "INTERSECT") ∷ []) (read_as (read_the_word (codes "INTERSECT")) Intersect)
    (read_as (read_the_word (codes "MINUS")) Minus))

abbrev pub set_op_kinds : List ℕ
set_op_kinds = word_kind (codes "UNION") ∷ word_kind (codes "INTERSECT") ∷ word_kind (codes "MINUS") ∷ []

unfoldable pub read_next_term : ℕ → Nested → Reader (Tree ANextTerm)
read_next_term room inside = read_made (read_both read_set_op (read_term room inside)) λ n v. tree.NextTerm v.0 v.1

unfoldable pub read_query : ℕ → Nested → Reader (Tree AQuery)
read_query room inside =
    read_made
    (read_both (read_many (word_kind (codes "PATH") ∷ word_kind (codes "GRAPH") ∷ []) (read_head room inside) room)
    (read_both (read_term room inside) (read_many set_op_kinds (read_next_term room inside) room)))
    λ n v. as_query v.0 v.1.0 v.1.1

-- the readers of what brackets may hold, for lists of fewer tokens than the room
unfoldable pub nested : ℕ → Nested
nested zero = record { expr = stuck; query = stuck }
nested (suc room) = record { expr = read_expr (suc room) (nested room); query = read_query (suc room) (nested room) }

-- `GRAPH` `VIEW`: the tokens that tell a view from a query
abbrev pub view_kinds : List (List ℕ)
view_kinds = (word_kind (codes "GRAPH") ∷ []) ∷ (word_kind (codes "VIEW") ∷ []) ∷ []

unfoldable pub read_view_statement : Nested → Reader (Tree AStatement)
read_view_statement inside =
    read_made
    (read_behind (read_the_word (codes "GRAPH")) (read_behind (read_the_word (codes "VIEW")) (read_named_query inside)))
    λ n v. tree.View v.0 v.1

unfoldable pub read_statement : ℕ → Nested → Reader (Tree AStatement)
read_statement room inside =
    read_fork view_kinds (read_view_statement inside) (read_made (read_query room inside) λ n v. tree.Ask v)

-- none at the end of the list, and else what a reader gives
unfoldable pub read_unless_end : {A : Type 0} → Reader (List A) → Reader (List A)
read_unless_end p start [] = Got [] start []
read_unless_end p start (token ∷ ts) = p start (token ∷ ts)

-- what follows a statement up to the end of the list: none, with or without a last `;`, or `;` and others
unfoldable pub read_later : {A : Type 0} → Reader A → ℕ → Reader (List A)
read_later statement zero = stuck
read_later statement (suc turns) =
    read_unless_end
    (read_behind (read_mark mark.Semicolon) (read_unless_end (read_made (read_both statement (read_later statement turns)) λ n v. v.0 ∷ v.1)))

-- a whole file
unfoldable pub read_file : ℕ → Nested → Reader (List (Tree AStatement))
read_file room inside =
    read_made (read_both (read_statement room inside) (read_later (read_statement room inside) room)) λ n v. v.0 ∷ v.1

-- what the reader of whole files gives for a list of fewer tokens than the room
abbrev pub file_reading : ℕ → List Token → Reading (List (Tree AStatement))
file_reading room ts = read_file room (nested (room - 1)) start ts
