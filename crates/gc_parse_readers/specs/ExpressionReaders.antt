-- The readers of expressions, a production each, in the words of the grammar's readers.
use Rattle.std.specs.Prelude.{ℕ, Bool, true, false, List, [], ◌∷◌, codes, Some, None}
use Rattle.gc_lex.specs.declared.token.Mark.TheVariants as mark
use Rattle.gc_expr.specs.declared.expr.Comparison.{Comparison}
use Rattle.gc_expr.specs.declared.expr.Comparison.TheVariants.{Equal, Unequal, Less, LessEqual, Greater, GreaterEqual, Member, Included}
use Rattle.gc_expr.specs.declared.expr.Fold.{Fold}
use Rattle.gc_expr.specs.declared.expr.Fold.TheVariants as fold
use Rattle.gc_expr.specs.declared.expr.ProductOp.{ProductOp}
use Rattle.gc_expr.specs.declared.expr.ProductOp.TheVariants.{Times, Divided, Remainder}
use Rattle.gc_expr.specs.Trees as tree
use Rattle.gc_expr.specs.Trees.{ExprTree, ANode, ASumPart, AProductPart, row, maybe, At}
use Rattle.gc_ast.specs.Trees.{Tree, AQuery, AFormula, Formula}
use Rattle.gc_ast.specs.Trees as query
use Rattle.gc_parse_readers.specs.Kinds.{mark_kind, word_kind, number_kind, text_kind, name_kind}
use Rattle.gc_parse_readers.specs.Readers.{Reader, read_both, read_made, read_behind, read_before, read_either, read_fork, read_optional, read_many, read_separated, read_as, read_mark, read_the_word, read_word, read_number, read_text, read_name, read_alone, read_numbered}
use Rattle.gc_grammar.specs.Expressions.{Expr, Suffix, PropertyOf, LabelOf, suffixed, prefixed, summed, multiplied, compared, chained}

-- the readers of what brackets may hold
pub record Nested : Type 0 where
  pub expr : Reader Expr
  pub query : Reader (Tree AQuery)

unfoldable pub read_in_parentheses : {A : Type 0} → Reader A → Reader A
read_in_parentheses p = read_before (read_behind (read_mark mark.OpenParenthesis) p) (read_mark mark.CloseParenthesis)

unfoldable pub read_indexed : List ℕ → (List ℕ → Expr → ExprTree ANode) → Nested → Reader Expr
read_indexed what make inside =
    read_made
    (read_both
    (read_behind (read_the_word what) (read_in_parentheses read_name))
    (read_before (read_behind (read_mark mark.OpenBracket) inside.expr) (read_mark mark.CloseBracket)))
    λ n v. At n (make v.0.name v.1)

unfoldable pub read_folding : Reader Fold
read_folding =
    read_either (word_kind (codes "COUNT") ∷ []) (read_as (read_the_word (codes "COUNT")) fold.Count)
    (read_either (word_kind (codes "SUM") ∷ []) (read_as (read_the_word (codes "SUM")) fold.Sum)
    (read_either (word_kind (codes "MIN") ∷ []) (read_as (read_the_word (codes "MIN")) fold.Min)
    (read_either (word_kind (codes "MAX") ∷ []) (read_as (read_the_word (codes "MAX")) fold.Max)
    (read_as (read_the_word (codes "COLLECT")) fold.Collect))))

-- `COUNT` `(` `*`: the tokens that tell the count of rows from that of an operand
abbrev pub count_of_rows : List (List ℕ)
count_of_rows = (word_kind (codes "COUNT") ∷ []) ∷ (mark_kind mark.OpenParenthesis ∷ []) ∷ (mark_kind mark.Star ∷ []) ∷ []

unfoldable pub read_rows : Reader Expr
read_rows =
    read_made (read_behind (read_the_word (codes "COUNT")) (read_in_parentheses (read_mark mark.Star)))
    λ n v. At n (tree.Aggregate fold.Rows (maybe None))

unfoldable pub read_aggregate : Nested → Reader Expr
read_aggregate inside =
    read_made (read_both read_folding (read_in_parentheses inside.expr)) λ n v. At n (tree.Aggregate v.0 (maybe (Some v.1)))

unfoldable pub read_exists : Nested → Reader Expr
read_exists inside =
    read_made (read_behind (read_the_word (codes "EXISTS")) (read_in_parentheses (read_numbered inside.query)))
    λ n i. At n (tree.Exists i)

unfoldable pub read_length : Reader Expr
read_length =
    read_made (read_behind (read_the_word (codes "length")) (read_in_parentheses read_name)) λ n v. At n (tree.Length v.name)

-- a number, a text, a truth or a variable
unfoldable pub read_literal : Reader Expr → Reader Expr
read_literal other =
    read_either (number_kind ∷ []) (read_made read_number λ n v. At n (tree.Number v))
    (read_either (text_kind ∷ []) (read_made read_text λ n v. At n (tree.Text v))
    (read_either (word_kind (codes "TRUE") ∷ []) (read_made (read_the_word (codes "TRUE")) λ n v. At n (tree.Truth true))
    (read_either (word_kind (codes "FALSE") ∷ []) (read_made (read_the_word (codes "FALSE")) λ n v. At n (tree.Truth false))
    (read_either (name_kind ∷ []) (read_made read_name λ n v. At n (tree.Var v.name)) other))))

-- what else a primary may be: it has parentheses
abbrev pub read_call : Nested → Reader Expr
read_call inside =
    read_either (mark_kind mark.OpenParenthesis ∷ []) (read_in_parentheses inside.expr)
    (read_either (word_kind (codes "EXISTS") ∷ []) (read_exists inside)
    (read_either (word_kind (codes "nodes") ∷ []) (read_indexed (codes "nodes") tree.NodeAt inside)
    (read_either (word_kind (codes "edges") ∷ []) (read_indexed (codes "edges") tree.EdgeAt inside)
    (read_either (word_kind (codes "length") ∷ []) read_length
    (read_fork count_of_rows read_rows (read_aggregate inside))))))

unfoldable pub read_prim : Nested → Reader Expr
read_prim inside = read_literal (read_call inside)

unfoldable pub read_suffix : Reader Suffix
read_suffix =
    read_either (mark_kind mark.Dot ∷ []) (read_made (read_behind (read_mark mark.Dot) read_word) λ n v. PropertyOf v)
    (read_made (read_behind (read_mark mark.Colon) read_word) λ n v. LabelOf v)

unfoldable pub read_post : Nested → Reader Expr
read_post inside =
    read_made (read_both (read_prim inside) (read_optional (mark_kind mark.Dot ∷ mark_kind mark.Colon ∷ []) read_suffix))
    λ n v. suffixed n v.0 v.1

unfoldable pub read_neg : Nested → Reader Expr
read_neg inside =
    read_made (read_both (read_optional (mark_kind mark.Minus ∷ []) (read_mark mark.Minus)) (read_post inside))
    λ n v. prefixed tree.Negate n v.0 v.1

unfoldable pub read_product_op : Reader ProductOp
read_product_op =
    read_either (mark_kind mark.Star ∷ []) (read_as (read_mark mark.Star) Times)
    (read_either (mark_kind mark.Slash ∷ []) (read_as (read_mark mark.Slash) Divided)
    (read_as (read_mark mark.Percent) Remainder))

abbrev pub product_kinds : List ℕ
product_kinds = mark_kind mark.Star ∷ mark_kind mark.Slash ∷ mark_kind mark.Percent ∷ []

unfoldable pub read_product_part : Nested → Reader (ExprTree AProductPart)
read_product_part inside = read_made (read_both read_product_op (read_neg inside)) λ n v. tree.ProductPart v.0 v.1

unfoldable pub read_prod : ℕ → Nested → Reader Expr
read_prod room inside =
    read_made (read_both (read_neg inside) (read_many product_kinds (read_product_part inside) room))
    λ n v. multiplied n v.0 v.1

unfoldable pub read_sign : Reader Bool
read_sign =
    read_either (mark_kind mark.Plus ∷ []) (read_as (read_mark mark.Plus) false) (read_as (read_mark mark.Minus) true)

unfoldable pub read_sum_part : ℕ → Nested → Reader (ExprTree ASumPart)
read_sum_part room inside = read_made (read_both read_sign (read_prod room inside)) λ n v. tree.SumPart v.0 v.1

unfoldable pub read_sum : ℕ → Nested → Reader Expr
read_sum room inside =
    read_made (read_both (read_prod room inside) (read_many (mark_kind mark.Plus ∷ mark_kind mark.Minus ∷ []) (read_sum_part room inside) room))
    λ n v. summed n v.0 v.1

unfoldable pub read_comparison : Reader Comparison
read_comparison =
    read_either (mark_kind mark.Equals ∷ []) (read_as (read_mark mark.Equals) Equal)
    (read_either (mark_kind mark.Differs ∷ []) (read_as (read_mark mark.Differs) Unequal)
    (read_either (mark_kind mark.Less ∷ []) (read_as (read_mark mark.Less) Less)
    (read_either (mark_kind mark.AtMost ∷ []) (read_as (read_mark mark.AtMost) LessEqual)
    (read_either (mark_kind mark.Greater ∷ []) (read_as (read_mark mark.Greater) Greater)
    (read_either (mark_kind mark.AtLeast ∷ []) (read_as (read_mark mark.AtLeast) GreaterEqual)
    (read_either (word_kind (codes "IN") ∷ []) (read_as (read_the_word (codes "IN")) Member)
    (read_as (read_the_word (codes "SUBSET")) Included)))))))

abbrev pub comparison_kinds : List ℕ
comparison_kinds =
    mark_kind mark.Equals ∷ mark_kind mark.Differs ∷ mark_kind mark.Less ∷ mark_kind mark.AtMost
    ∷ mark_kind mark.Greater ∷ mark_kind mark.AtLeast ∷ word_kind (codes "IN") ∷ word_kind (codes "SUBSET") ∷ []

unfoldable pub read_cmp : ℕ → Nested → Reader Expr
read_cmp room inside =
    read_made (read_both (read_sum room inside) (read_optional comparison_kinds (read_both read_comparison (read_sum room inside))))
    λ n v. compared n v.0 v.1

unfoldable pub read_not : ℕ → Nested → Reader Expr
read_not room inside =
    read_made (read_both (read_optional (word_kind (codes "NOT") ∷ []) (read_the_word (codes "NOT"))) (read_cmp room inside))
    λ n v. prefixed tree.Not n v.0 v.1

unfoldable pub read_and : ℕ → Nested → Reader Expr
read_and room inside =
    read_made (read_separated (word_kind (codes "AND") ∷ []) (read_not room inside) (read_the_word (codes "AND")) room)
    λ n parts. chained tree.And n parts

unfoldable pub read_expr : ℕ → Nested → Reader Expr
read_expr room inside =
    read_made (read_separated (word_kind (codes "OR") ∷ []) (read_and room inside) (read_the_word (codes "OR")) room)
    λ n parts. chained tree.Or n parts

unfoldable pub read_formula : ℕ → Nested → Reader (Tree AFormula)
read_formula room inside = read_made (read_alone (read_expr room inside)) λ n v. Formula v.0 (query.row v.1)
