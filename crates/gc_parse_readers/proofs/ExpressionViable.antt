-- The readers of expressions are stuck only behind a beginning of one.
use Rattle.std.proofs.Common.{ℕ, suc, List, [], ◌∷◌, codes}
use Rattle.gc_lex.specs.declared.token.Mark.TheVariants as mark
use Rattle.gc_expr.specs.Trees as tree
use Rattle.gc_expr.specs.Trees.{ExprTree, ANode}
use Rattle.gc_grammar.specs.Words.{Lang}
use Rattle.gc_grammar.specs.Expressions.{Expr, Inside, in_parentheses, indexed, folding, prim, suffix, post, neg, product_op, product_part, prod, sign, sum_part, sum, comparison, cmp, not, and, expr, formula}
use Rattle.gc_parse_readers.specs.Kinds.{mark_kind, word_kind, number_kind, text_kind, name_kind}
use Rattle.gc_parse_readers.specs.Readers.{Reader}
use Rattle.gc_parse_readers.specs.ExpressionReaders.{Nested, count_of_rows, product_kinds, comparison_kinds, read_in_parentheses, read_indexed, read_folding, read_rows, read_aggregate, read_exists, read_length, read_literal, read_prim, read_suffix, read_post, read_neg, read_product_op, read_product_part, read_prod, read_sign, read_sum_part, read_sum, read_comparison, read_cmp, read_not, read_and, read_expr, read_formula}
use Rattle.gc_parse_readers.proofs.Beginnings.{HasWord, Viable}
use Rattle.gc_parse_readers.proofs.Words.{has_both, has_made, has_first, has_none, has_no, has_separated}
use Rattle.gc_parse_readers.proofs.ViableParts.{viable_mark, viable_the_word, viable_word, viable_number, viable_text, viable_name, viable_both, viable_made, viable_behind, viable_before, viable_as, viable_opening, viable_either, viable_fork, viable_optional}
use Rattle.gc_parse_readers.proofs.ViableLists.{viable_many, viable_separated, viable_alone, viable_numbered}

-- what brackets may hold
pub record InsideViable (j : ℕ) (L : Inside) (p : Nested) : Type 0 where
  pub expr : Viable j L.expr p.expr
  pub query : Viable j L.query p.query

-- what stands between parentheses
pub viable_in_parentheses : {j : ℕ} {A : Type 0} {L : Lang A} {p : Reader A} → Viable j L p → Viable (suc j) (in_parentheses L) (read_in_parentheses p)
unfolding read_in_parentheses
viable_in_parentheses inside = viable_before (viable_opening mark.OpenParenthesis inside) (viable_mark mark.CloseParenthesis)

viable_indexed : {j : ℕ} {L : Inside} {p : Nested} (what : List ℕ) (make : List ℕ → Expr → ExprTree ANode) → InsideViable j L p
    → Viable (suc j) (indexed what make L) (read_indexed what make p)
unfolding read_indexed
viable_indexed what make inside =
    viable_made
    (viable_both (viable_behind (viable_the_word what) (viable_in_parentheses viable_name))
    (viable_before (viable_opening mark.OpenBracket inside.expr) (viable_mark mark.CloseBracket)))

viable_folding : {j : ℕ} → Viable j folding read_folding
unfolding read_folding
viable_folding =
    viable_either (word_kind (codes "COUNT") ∷ []) (viable_as (viable_the_word (codes "COUNT")))
    (viable_either (word_kind (codes "SUM") ∷ []) (viable_as (viable_the_word (codes "SUM")))
    (viable_either (word_kind (codes "MIN") ∷ []) (viable_as (viable_the_word (codes "MIN")))
    (viable_either (word_kind (codes "MAX") ∷ []) (viable_as (viable_the_word (codes "MAX"))) (viable_as (viable_the_word (codes "COLLECT"))))))

viable_prim : {j : ℕ} {L : Inside} {p : Nested} → InsideViable j L p → Viable (suc j) (prim L) (read_prim p)
unfolding read_prim read_literal read_exists read_length read_rows read_aggregate
viable_prim inside =
    viable_either (number_kind ∷ []) (viable_made viable_number)
    (viable_either (text_kind ∷ []) (viable_made viable_text)
    (viable_either (word_kind (codes "TRUE") ∷ []) (viable_made (viable_the_word (codes "TRUE")))
    (viable_either (word_kind (codes "FALSE") ∷ []) (viable_made (viable_the_word (codes "FALSE")))
    (viable_either (name_kind ∷ []) (viable_made viable_name)
    (viable_either (mark_kind mark.OpenParenthesis ∷ []) (viable_in_parentheses inside.expr)
    (viable_either (word_kind (codes "EXISTS") ∷ [])
    (viable_made (viable_behind (viable_the_word (codes "EXISTS")) (viable_in_parentheses (viable_numbered inside.query))))
    (viable_either (word_kind (codes "nodes") ∷ []) (viable_indexed (codes "nodes") tree.NodeAt inside)
    (viable_either (word_kind (codes "edges") ∷ []) (viable_indexed (codes "edges") tree.EdgeAt inside)
    (viable_either (word_kind (codes "length") ∷ []) (viable_made (viable_behind (viable_the_word (codes "length")) (viable_in_parentheses viable_name)))
    (viable_fork count_of_rows
    (viable_made (viable_behind (viable_the_word (codes "COUNT")) (viable_in_parentheses (viable_mark mark.Star))))
    (viable_made (viable_both viable_folding (viable_in_parentheses inside.expr)))))))))))))

viable_suffix : {j : ℕ} → Viable j suffix read_suffix
unfolding read_suffix
viable_suffix =
    viable_either (mark_kind mark.Dot ∷ []) (viable_made (viable_behind (viable_mark mark.Dot) viable_word))
    (viable_made (viable_behind (viable_mark mark.Colon) viable_word))

viable_post : {j : ℕ} {L : Inside} {p : Nested} → InsideViable j L p → Viable (suc j) (post L) (read_post p)
unfolding read_post
viable_post inside = viable_made (viable_both (viable_prim inside) (viable_optional (mark_kind mark.Dot ∷ mark_kind mark.Colon ∷ []) viable_suffix))

viable_neg : {j : ℕ} {L : Inside} {p : Nested} → InsideViable j L p → Viable (suc j) (neg L) (read_neg p)
unfolding read_neg
viable_neg inside = viable_made (viable_both (viable_optional (mark_kind mark.Minus ∷ []) (viable_mark mark.Minus)) (viable_post inside))

viable_product_op : {j : ℕ} → Viable j product_op read_product_op
unfolding read_product_op
viable_product_op =
    viable_either (mark_kind mark.Star ∷ []) (viable_as (viable_mark mark.Star))
    (viable_either (mark_kind mark.Slash ∷ []) (viable_as (viable_mark mark.Slash)) (viable_as (viable_mark mark.Percent)))

viable_product_part : {j : ℕ} {L : Inside} {p : Nested} → InsideViable j L p → Viable (suc j) (product_part L) (read_product_part p)
unfolding read_product_part
viable_product_part inside = viable_made (viable_both viable_product_op (viable_neg inside))

viable_prod : {j : ℕ} {L : Inside} {p : Nested} → InsideViable j L p → Viable (suc j) (prod L) (read_prod (suc j) p)
unfolding read_prod
viable_prod {j = j} inside = viable_made (viable_both (viable_neg inside) (viable_many product_kinds (suc j) (viable_product_part inside)))

viable_sign : {j : ℕ} → Viable j sign read_sign
unfolding read_sign
viable_sign = viable_either (mark_kind mark.Plus ∷ []) (viable_as (viable_mark mark.Plus)) (viable_as (viable_mark mark.Minus))

viable_sum_part : {j : ℕ} {L : Inside} {p : Nested} → InsideViable j L p → Viable (suc j) (sum_part L) (read_sum_part (suc j) p)
unfolding read_sum_part
viable_sum_part inside = viable_made (viable_both viable_sign (viable_prod inside))

viable_sum : {j : ℕ} {L : Inside} {p : Nested} → InsideViable j L p → Viable (suc j) (sum L) (read_sum (suc j) p)
unfolding read_sum
viable_sum {j = j} inside =
    viable_made (viable_both (viable_prod inside) (viable_many (mark_kind mark.Plus ∷ mark_kind mark.Minus ∷ []) (suc j) (viable_sum_part inside)))

viable_comparison : {j : ℕ} → Viable j comparison read_comparison
unfolding read_comparison
viable_comparison =
    viable_either (mark_kind mark.Equals ∷ []) (viable_as (viable_mark mark.Equals))
    (viable_either (mark_kind mark.Differs ∷ []) (viable_as (viable_mark mark.Differs))
    (viable_either (mark_kind mark.Less ∷ []) (viable_as (viable_mark mark.Less))
    (viable_either (mark_kind mark.AtMost ∷ []) (viable_as (viable_mark mark.AtMost))
    (viable_either (mark_kind mark.Greater ∷ []) (viable_as (viable_mark mark.Greater))
    (viable_either (mark_kind mark.AtLeast ∷ []) (viable_as (viable_mark mark.AtLeast))
    (viable_either (word_kind (codes "IN") ∷ []) (viable_as (viable_the_word (codes "IN"))) (viable_as (viable_the_word (codes "SUBSET")))))))))

viable_cmp : {j : ℕ} {L : Inside} {p : Nested} → InsideViable j L p → Viable (suc j) (cmp L) (read_cmp (suc j) p)
unfolding read_cmp
viable_cmp inside = viable_made (viable_both (viable_sum inside) (viable_optional comparison_kinds (viable_both viable_comparison (viable_sum inside))))

viable_not : {j : ℕ} {L : Inside} {p : Nested} → InsideViable j L p → Viable (suc j) (not L) (read_not (suc j) p)
unfolding read_not
viable_not inside = viable_made (viable_both (viable_optional (word_kind (codes "NOT") ∷ []) (viable_the_word (codes "NOT"))) (viable_cmp inside))

viable_and : {j : ℕ} {L : Inside} {p : Nested} → InsideViable j L p → Viable (suc j) (and L) (read_and (suc j) p)
unfolding read_and
viable_and {j = j} inside = viable_made (viable_separated (word_kind (codes "AND") ∷ []) (suc j) (viable_not inside) (viable_the_word (codes "AND")))

pub viable_expr : {j : ℕ} {L : Inside} {p : Nested} → InsideViable j L p → Viable (suc j) (expr L) (read_expr (suc j) p)
unfolding read_expr
viable_expr {j = j} inside = viable_made (viable_separated (word_kind (codes "OR") ∷ []) (suc j) (viable_and inside) (viable_the_word (codes "OR")))

-- an expression in a query
pub viable_formula : {j : ℕ} {L : Inside} {p : Nested} → InsideViable j L p → Viable (suc j) (formula L) (read_formula (suc j) p)
unfolding read_formula
viable_formula inside = viable_made (viable_alone (viable_expr inside))

-- a number, whatever brackets may hold
pub has_expr : (L : Inside) → HasWord (expr L)
has_expr L =
    has_made (has_separated (has_made (has_separated (has_made (has_both has_none
    (has_made (has_both
    (has_made (has_both
    (has_made (has_both
    (has_made (has_both has_none
    (has_made (has_both (has_first (has_made (viable_number {j = 0}).word)) has_none)))) has_no)) has_no)) has_none)))))))
