-- The readers of expressions are right.
use Rattle.std.proofs.Common.{◌≡◌, refl, ℕ, suc, true, false, List, [], ◌∷◌, codes, Some, None}
use Rattle.gc_lex.specs.declared.token.Mark.TheVariants as mark
use Rattle.gc_expr.specs.declared.expr.Fold.TheVariants as fold
use Rattle.gc_expr.specs.Trees as tree
use Rattle.gc_expr.specs.Trees.{ExprTree, ANode, maybe, At}
use Rattle.gc_grammar.specs.Words.{Lang, ◌⋅◌, ◌⇒◌, ◌▸◌, mark, the_word, name, numbered}
use Rattle.gc_parse_readers.specs.Kinds.{mark_kind, word_kind, number_kind, text_kind, name_kind, apart}
use Rattle.gc_parse_readers.specs.Readers.{Reader}
use Rattle.gc_grammar.specs.Expressions.{Expr, Inside, in_parentheses, indexed, folding, prim, suffix, post, neg, product_op, product_part, prod, sign, sum_part, sum, comparison, cmp, not, and, expr, formula}
use Rattle.gc_parse_readers.specs.Right.{Right, Outline, one_of, both_of}
use Rattle.gc_parse_readers.proofs.RightTokens.{right_mark, right_the_word, right_word, right_number, right_text}
use Rattle.gc_parse_readers.proofs.RightBoth.{right_name, right_both, right_made, right_behind, right_before, right_as}
use Rattle.gc_parse_readers.proofs.RightChoices.{right_either, right_optional}
use Rattle.gc_parse_readers.proofs.RightMany.{right_many, right_separated}
use Rattle.gc_parse_readers.proofs.RightBrackets.{right_opening, right_alone, right_numbered}
use Rattle.gc_parse_readers.proofs.RightFork.{Way, right_fork}
use Rattle.gc_parse_readers.proofs.Taken.{Taken, taken_mark, taken_the_word, taken_as, taken_any, taken_either}
use Rattle.gc_parse_readers.proofs.Ways.{way_last, way_not_last, way_made, way_before, way_token_behind, way_opening, way_any_token}
use Rattle.gc_parse_readers.specs.ExpressionReaders.{Nested, read_in_parentheses, read_indexed, read_folding, read_rows, read_aggregate, read_exists, read_length, read_literal, read_prim, read_suffix, read_post, read_neg, read_product_op, product_kinds, read_product_part, read_prod, read_sign, read_sum_part, read_sum, read_comparison, comparison_kinds, read_cmp, read_not, read_and, read_expr, read_formula}
use Rattle.gc_parse_readers.proofs.Outlines.{right_outlined, expr_outline, prim_outline, neg_outline, post_more, prod_more, sum_more, cmp_more, not_outline, and_more, InsideRight, folding_kinds}

-- the parts of a primary: the count of rows, of an operand, EXISTS and the length of a path
abbrev rows : Lang Expr
rows = (the_word (codes "COUNT") ▸ in_parentheses (mark mark.Star)) ⇒ λ n v. At n (tree.Aggregate fold.Rows (maybe None))

abbrev aggregate : Inside → Lang Expr
aggregate inside = (folding ⋅ in_parentheses inside.expr) ⇒ λ n v. At n (tree.Aggregate v.0 (maybe (Some v.1)))

abbrev exists : Inside → Lang Expr
exists inside = (the_word (codes "EXISTS") ▸ in_parentheses (numbered inside.query)) ⇒ λ n i. At n (tree.Exists i)

abbrev length_of : Lang Expr
length_of = (the_word (codes "length") ▸ in_parentheses name) ⇒ λ n v. At n (tree.Length v.name)

-- `COUNT` `(`: what both counts begin with
abbrev count_of_rows_before : List (List ℕ)
count_of_rows_before = (word_kind (codes "COUNT") ∷ []) ∷ (mark_kind mark.OpenParenthesis ∷ []) ∷ []

-- what stands between parentheses
pub right_in_parentheses : {j J : ℕ} {A : Type 0} {L M : Lang A} {p q : Reader A} {o : Outline}
    → apart (both_of (one_of (mark_kind mark.OpenParenthesis ∷ [])) o).more (mark_kind mark.CloseParenthesis ∷ []) ≡ true → Right j J L M p q o
    → Right (suc j) (suc J) (in_parentheses L) (in_parentheses M) (read_in_parentheses p) (read_in_parentheses q) (one_of (mark_kind mark.OpenParenthesis ∷ []))
unfolding read_in_parentheses
right_in_parentheses c inside = right_before (right_opening mark.OpenParenthesis inside) (right_mark mark.CloseParenthesis) c

right_indexed : {j J : ℕ} {L M : Inside} {p q : Nested} (what : List ℕ) (make : List ℕ → Expr → ExprTree ANode) → InsideRight j J L M p q
    → Right (suc j) (suc J) (indexed what make L) (indexed what make M) (read_indexed what make p) (read_indexed what make q) (one_of (word_kind what ∷ []))
unfolding read_indexed
right_indexed what make inside =
    right_made
    (right_both (right_behind (right_the_word what) (right_in_parentheses refl right_name) refl)
    (right_before (right_opening mark.OpenBracket inside.expr) (right_mark mark.CloseBracket) refl) refl)

right_folding : {j J : ℕ} → Right j J folding folding read_folding read_folding (one_of folding_kinds)
unfolding read_folding
right_folding =
    right_either (word_kind (codes "COUNT") ∷ []) refl refl refl refl (right_as (right_the_word (codes "COUNT")))
    (right_either (word_kind (codes "SUM") ∷ []) refl refl refl refl (right_as (right_the_word (codes "SUM")))
    (right_either (word_kind (codes "MIN") ∷ []) refl refl refl refl (right_as (right_the_word (codes "MIN")))
    (right_either (word_kind (codes "MAX") ∷ []) refl refl refl refl (right_as (right_the_word (codes "MAX")))
    (right_as (right_the_word (codes "COLLECT"))))))

-- a folding word, of which COUNT is taken by the fork of the two counts
taken_folding : Taken (word_kind (codes "COUNT") ∷ []) folding folding read_folding
unfolding read_folding
taken_folding =
    taken_either (word_kind (codes "COUNT") ∷ []) refl (taken_as (taken_the_word (codes "COUNT") refl))
    (taken_any (taken_either (word_kind (codes "SUM") ∷ []) refl (taken_as (taken_the_word (codes "SUM") refl))
    (taken_any (taken_either (word_kind (codes "MIN") ∷ []) refl (taken_as (taken_the_word (codes "MIN") refl))
    (taken_any (taken_either (word_kind (codes "MAX") ∷ []) refl (taken_as (taken_the_word (codes "MAX") refl))
    (taken_any (taken_as (taken_the_word (codes "COLLECT") refl)))))))))

right_rows : {j J : ℕ} → Right (suc j) (suc J) rows rows read_rows read_rows (one_of (word_kind (codes "COUNT") ∷ []))
unfolding read_rows
right_rows = right_made (right_behind (right_the_word (codes "COUNT")) (right_in_parentheses refl (right_mark mark.Star)) refl)

way_rows : {j J : ℕ} → Way j J count_of_rows_before (mark_kind mark.Star ∷ []) true rows rows read_rows
unfolding read_rows read_in_parentheses
way_rows =
    way_made
    (way_token_behind refl (taken_the_word (codes "COUNT") refl) (right_the_word (codes "COUNT"))
    (way_before
    (way_token_behind refl (taken_mark mark.OpenParenthesis) (right_mark mark.OpenParenthesis) (way_last refl refl (right_mark mark.Star)))
    (right_mark mark.CloseParenthesis)))

right_aggregate : {j J : ℕ} {L M : Inside} {p q : Nested} → InsideRight j J L M p q
    → Right (suc j) (suc J) (aggregate L) (aggregate M) (read_aggregate p) (read_aggregate q) (one_of folding_kinds)
unfolding read_aggregate
right_aggregate inside = right_made (right_both right_folding (right_in_parentheses refl inside.expr) refl)

way_aggregate : {j J : ℕ} {L M : Inside} {p q : Nested} → InsideRight j J L M p q
    → Way (suc j) (suc J) count_of_rows_before (mark_kind mark.Star ∷ []) false (aggregate L) (aggregate M) (read_aggregate p)
unfolding read_aggregate read_in_parentheses
way_aggregate inside =
    way_made
    (way_any_token taken_folding
    (way_before (way_opening mark.OpenParenthesis (way_not_last refl refl inside.expr)) (right_mark mark.CloseParenthesis)))

right_exists : {j J : ℕ} {L M : Inside} {p q : Nested} → InsideRight j J L M p q
    → Right (suc j) (suc J) (exists L) (exists M) (read_exists p) (read_exists q) (one_of (word_kind (codes "EXISTS") ∷ []))
unfolding read_exists
right_exists inside =
    right_made (right_behind (right_the_word (codes "EXISTS")) (right_in_parentheses refl (right_numbered inside.query)) refl)

right_length : {j J : ℕ} → Right (suc j) (suc J) length_of length_of read_length read_length (one_of (word_kind (codes "length") ∷ []))
unfolding read_length
right_length = right_made (right_behind (right_the_word (codes "length")) (right_in_parentheses refl right_name) refl)

right_prim : {j J : ℕ} {L M : Inside} {p q : Nested} → InsideRight j J L M p q
    → Right (suc j) (suc J) (prim L) (prim M) (read_prim p) (read_prim q) (prim_outline [])
unfolding read_prim read_literal
right_prim inside =
    right_either (number_kind ∷ []) refl refl refl refl (right_made right_number)
    (right_either (text_kind ∷ []) refl refl refl refl (right_made right_text)
    (right_either (word_kind (codes "TRUE") ∷ []) refl refl refl refl (right_made (right_the_word (codes "TRUE")))
    (right_either (word_kind (codes "FALSE") ∷ []) refl refl refl refl (right_made (right_the_word (codes "FALSE")))
    (right_either (name_kind ∷ []) refl refl refl refl (right_made right_name)
    (right_either (mark_kind mark.OpenParenthesis ∷ []) refl refl refl refl (right_in_parentheses refl inside.expr)
    (right_either (word_kind (codes "EXISTS") ∷ []) refl refl refl refl (right_exists inside)
    (right_either (word_kind (codes "nodes") ∷ []) refl refl refl refl (right_indexed (codes "nodes") tree.NodeAt inside)
    (right_either (word_kind (codes "edges") ∷ []) refl refl refl refl (right_indexed (codes "edges") tree.EdgeAt inside)
    (right_either (word_kind (codes "length") ∷ []) refl refl refl refl right_length
    (right_fork count_of_rows_before (mark_kind mark.Star ∷ []) way_rows (way_aggregate inside) right_rows (right_aggregate inside)))))))))))

right_suffix : {j J : ℕ} → Right j J suffix suffix read_suffix read_suffix (one_of post_more)
unfolding read_suffix
right_suffix =
    right_either (mark_kind mark.Dot ∷ []) refl refl refl refl (right_made (right_behind (right_mark mark.Dot) right_word refl))
    (right_made (right_behind (right_mark mark.Colon) right_word refl))

right_post : {j J : ℕ} {L M : Inside} {p q : Nested} → InsideRight j J L M p q
    → Right (suc j) (suc J) (post L) (post M) (read_post p) (read_post q) (prim_outline post_more)
unfolding read_post
right_post inside = right_made (right_both (right_prim inside) (right_optional post_more refl refl refl right_suffix) refl)

right_neg : {j J : ℕ} {L M : Inside} {p q : Nested} → InsideRight j J L M p q
    → Right (suc j) (suc J) (neg L) (neg M) (read_neg p) (read_neg q) (neg_outline post_more)
unfolding read_neg
right_neg inside =
    right_made (right_both (right_optional (mark_kind mark.Minus ∷ []) refl refl refl (right_mark mark.Minus)) (right_post inside) refl)

right_product_op : {j J : ℕ} → Right j J product_op product_op read_product_op read_product_op (one_of product_kinds)
unfolding read_product_op
right_product_op =
    right_either (mark_kind mark.Star ∷ []) refl refl refl refl (right_as (right_mark mark.Star))
    (right_either (mark_kind mark.Slash ∷ []) refl refl refl refl (right_as (right_mark mark.Slash))
    (right_as (right_mark mark.Percent)))

right_product_part : {j J : ℕ} {L M : Inside} {p q : Nested} → InsideRight j J L M p q
    → Right (suc j) (suc J) (product_part L) (product_part M) (read_product_part p) (read_product_part q)
    (both_of (one_of product_kinds) (neg_outline post_more))
unfolding read_product_part
right_product_part inside = right_made (right_both right_product_op (right_neg inside) refl)

right_prod : {j J : ℕ} {L M : Inside} {p q : Nested} → InsideRight j J L M p q
    → Right (suc j) (suc J) (prod L) (prod M) (read_prod (suc j) p) (read_prod (suc J) q) (neg_outline prod_more)
unfolding read_prod
right_prod inside =
    right_outlined refl refl refl
    (right_made (right_both (right_neg inside) (right_many product_kinds refl refl refl refl (right_product_part inside)) refl))

right_sign : {j J : ℕ} → Right j J sign sign read_sign read_sign (one_of (mark_kind mark.Plus ∷ mark_kind mark.Minus ∷ []))
unfolding read_sign
right_sign =
    right_either (mark_kind mark.Plus ∷ []) refl refl refl refl (right_as (right_mark mark.Plus)) (right_as (right_mark mark.Minus))

right_sum_part : {j J : ℕ} {L M : Inside} {p q : Nested} → InsideRight j J L M p q
    → Right (suc j) (suc J) (sum_part L) (sum_part M) (read_sum_part (suc j) p) (read_sum_part (suc J) q)
    (both_of (one_of (mark_kind mark.Plus ∷ mark_kind mark.Minus ∷ [])) (neg_outline prod_more))
unfolding read_sum_part
right_sum_part inside = right_made (right_both right_sign (right_prod inside) refl)

right_sum : {j J : ℕ} {L M : Inside} {p q : Nested} → InsideRight j J L M p q
    → Right (suc j) (suc J) (sum L) (sum M) (read_sum (suc j) p) (read_sum (suc J) q) (neg_outline sum_more)
unfolding read_sum
right_sum inside =
    right_outlined refl refl refl
    (right_made
    (right_both (right_prod inside)
    (right_many (mark_kind mark.Plus ∷ mark_kind mark.Minus ∷ []) refl refl refl refl (right_sum_part inside)) refl))

right_comparison : {j J : ℕ} → Right j J comparison comparison read_comparison read_comparison (one_of comparison_kinds)
unfolding read_comparison
right_comparison =
    right_either (mark_kind mark.Equals ∷ []) refl refl refl refl (right_as (right_mark mark.Equals))
    (right_either (mark_kind mark.Differs ∷ []) refl refl refl refl (right_as (right_mark mark.Differs))
    (right_either (mark_kind mark.Less ∷ []) refl refl refl refl (right_as (right_mark mark.Less))
    (right_either (mark_kind mark.AtMost ∷ []) refl refl refl refl (right_as (right_mark mark.AtMost))
    (right_either (mark_kind mark.Greater ∷ []) refl refl refl refl (right_as (right_mark mark.Greater))
    (right_either (mark_kind mark.AtLeast ∷ []) refl refl refl refl (right_as (right_mark mark.AtLeast))
    (right_either (word_kind (codes "IN") ∷ []) refl refl refl refl (right_as (right_the_word (codes "IN")))
    (right_as (right_the_word (codes "SUBSET")))))))))

right_cmp : {j J : ℕ} {L M : Inside} {p q : Nested} → InsideRight j J L M p q
    → Right (suc j) (suc J) (cmp L) (cmp M) (read_cmp (suc j) p) (read_cmp (suc J) q) (neg_outline cmp_more)
unfolding read_cmp
right_cmp inside =
    right_outlined refl refl refl
    (right_made
    (right_both (right_sum inside)
    (right_optional comparison_kinds refl refl refl (right_both right_comparison (right_sum inside) refl)) refl))

right_not : {j J : ℕ} {L M : Inside} {p q : Nested} → InsideRight j J L M p q
    → Right (suc j) (suc J) (not L) (not M) (read_not (suc j) p) (read_not (suc J) q) (not_outline cmp_more)
unfolding read_not
right_not inside =
    right_made
    (right_both (right_optional (word_kind (codes "NOT") ∷ []) refl refl refl (right_the_word (codes "NOT"))) (right_cmp inside) refl)

right_and : {j J : ℕ} {L M : Inside} {p q : Nested} → InsideRight j J L M p q
    → Right (suc j) (suc J) (and L) (and M) (read_and (suc j) p) (read_and (suc J) q) (not_outline and_more)
unfolding read_and
right_and inside =
    right_outlined refl refl refl
    (right_made
    (right_separated (word_kind (codes "AND") ∷ []) refl refl refl refl refl refl (right_not inside) (right_the_word (codes "AND"))))

pub right_expr : {j J : ℕ} {L M : Inside} {p q : Nested} → InsideRight j J L M p q
    → Right (suc j) (suc J) (expr L) (expr M) (read_expr (suc j) p) (read_expr (suc J) q) expr_outline
unfolding read_expr
right_expr inside =
    right_outlined refl refl refl
    (right_made
    (right_separated (word_kind (codes "OR") ∷ []) refl refl refl refl refl refl (right_and inside) (right_the_word (codes "OR"))))

-- an expression in a query
pub right_formula : {j J : ℕ} {L M : Inside} {p q : Nested} → InsideRight j J L M p q
    → Right (suc j) (suc J) (formula L) (formula M) (read_formula (suc j) p) (read_formula (suc J) q) expr_outline
unfolding read_formula
right_formula inside = right_made (right_alone (right_expr inside))
