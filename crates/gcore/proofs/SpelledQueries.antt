-- Each regular path expression of a file that tokens spell has parts.
use Rattle.std.proofs.Common.{ℕ, zero, suc, List, [], ◌∷◌, Option, Some, None}
use Rattle.std.specs.Prelude.{⊤}
use Rattle.std.specs.List.{AllByRecursion}
use Rattle.gc_lex.specs.declared.token.Token.{Token}
use Rattle.gc_expr.specs.Trees.{ExprTree, ANode}
use Rattle.gc_ast.specs.Trees as tree
use Rattle.gc_ast.specs.Trees.{Tree, AStatement, AQuery, ATerm, ANextTerm, AHead, AFormula, ABasic, ABlock, AnOptional, row, rows, maybe}
use Rattle.gc_grammar.specs.Words.{Lang, One, optional, as_value, name, ◌▸◌, ◌⇒◌}
use Rattle.gc_grammar.specs.Expressions.{Inside, Expr, in_parentheses, indexed, folding, comparison, prim, post, neg, prod, sum, cmp, not, and, expr, formula}
use Rattle.gc_grammar.specs.Constructs.{assign, assigns, celement, cnode, new_edge, new_stored, clink, sub, item}
use Rattle.gc_grammar.specs.Patterns.{listed}
use Rattle.gc_grammar.specs.Queries.{SpellsFile, start, as_term, as_query, block, optional_block, basic, term, named_query, path_head, head, next_term, query, statement, file, within}
use Rattle.gc_query.specs.Expressions.{EachExpression, EachHasParts}
use Rattle.gcore.proofs.Languages.{Gives, Keeps, IfThere, anything, made, both, behind, before, either, perhaps, each, parted, keeps_one, keeps_made, keeps_pair, keeps_either, keeps_perhaps, keeps_each, keeps_parted, keeps_numbered, keeps_both, gives_alone}
use Rattle.gcore.proofs.SpelledPatterns.{row_all, edge_gives, linked_parts, vchain_parts, located_parts}

-- what may be absent, and chains
maybe_all : {k : tree.Kind} (o : Option (Tree k)) → IfThere EachHasParts o → EachHasParts (maybe o)
unfolding EachExpression
maybe_all None h = tt
maybe_all (Some t) h = (h, tt)

rows_all : {k : tree.Kind} (ts : List (List (Tree k))) → AllByRecursion (AllByRecursion EachHasParts) ts → EachHasParts (rows ts)
unfolding EachExpression
rows_all [] h = tt
rows_all (t ∷ ts) h = (row_all t h.0, rows_all ts h.1)

listed_all : {k : tree.Kind} (o : Option (List (Tree k))) → IfThere (AllByRecursion EachHasParts) o → AllByRecursion EachHasParts (listed o)
listed_all None h = tt
listed_all (Some ts) h = h

-- a query as a term, and a term as a query
as_term_all : (q : Tree AQuery) → EachHasParts q → EachHasParts (as_term q)
unfolding EachExpression
as_term_all (tree.Query tree.none first tree.none) h = h.1
as_term_all (tree.Query tree.none first (tree.more t ts)) h = h
as_term_all (tree.Query (tree.more t ts) first rest) h = h

as_query_all : (heads : List (Tree AHead)) (first : Tree ATerm) (rest : List (Tree ANextTerm)) → AllByRecursion EachHasParts heads → EachHasParts first
    → AllByRecursion EachHasParts rest → EachHasParts (as_query heads first rest)
unfolding EachExpression
as_query_all [] (tree.QueryTerm q) [] h f r = f
as_query_all [] (tree.QueryTerm q) (t ∷ ts) h f r = (tt, f, row_all (t ∷ ts) r)
as_query_all [] (tree.BasicTerm b) rest h f r = (tt, f, row_all rest r)
as_query_all [] (tree.GraphTerm g) rest h f r = (tt, f, row_all rest r)
as_query_all (t ∷ ts) first rest h f r = (row_all (t ∷ ts) h, f, row_all rest r)

-- a language keeps it that each expression in the EXISTS queries before it has parts
abbrev Query : Tree AQuery → Type 0
Query q = EachHasParts q

abbrev Stays : {A : Type 0} → Lang A → Type 0
Stays L = Keeps Query L

-- the productions, where it is so of what stands in their brackets
module _ (inside : Inside) (deeper : Stays inside.expr) (queries : Gives inside.query Query) where
  in_parentheses_stays : {A : Type 0} {L : Lang A} → Stays L → Stays (in_parentheses L)
  in_parentheses_stays l = keeps_pair (keeps_pair keeps_one l) keeps_one

  name_stays : Stays name
  name_stays = keeps_made keeps_one

  call_stays : {A B : Type 0} {W : Lang A} {L : Lang B} → Stays W → Stays L → Stays (W ▸ in_parentheses L)
  call_stays w l = keeps_pair w (in_parentheses_stays l)

  indexed_stays : (what : List ℕ) (make : List ℕ → Expr → ExprTree ANode) → Stays (indexed what make inside)
  indexed_stays what make = keeps_pair (call_stays keeps_one name_stays) (keeps_pair (keeps_pair keeps_one deeper) keeps_one)

  word_stays : {A B : Type 0} {Means : Token → A → Type 0} {b : B} → Stays (as_value (One Means) b)
  word_stays = keeps_made keeps_one

  folding_stays : Stays folding
  folding_stays = keeps_either word_stays (keeps_either word_stays (keeps_either word_stays (keeps_either word_stays word_stays)))

  prim_stays : Stays (prim inside)
  prim_stays =
      keeps_either (keeps_made keeps_one)
      (keeps_either (keeps_made keeps_one)
      (keeps_either (keeps_made keeps_one)
      (keeps_either (keeps_made keeps_one)
      (keeps_either (keeps_made name_stays)
      (keeps_either (in_parentheses_stays deeper)
      (keeps_either (keeps_made (call_stays keeps_one (keeps_numbered queries)))
      (keeps_either (indexed_stays _ _)
      (keeps_either (indexed_stays _ _)
      (keeps_either (keeps_made (call_stays keeps_one name_stays))
      (keeps_either (keeps_made (call_stays keeps_one keeps_one))
      (keeps_pair folding_stays (in_parentheses_stays deeper))))))))))))

  post_stays : Stays (post inside)
  post_stays = keeps_pair prim_stays (keeps_perhaps (keeps_either (keeps_made (keeps_pair keeps_one keeps_one)) (keeps_made (keeps_pair keeps_one keeps_one))))

  neg_stays : Stays (neg inside)
  neg_stays = keeps_pair (keeps_perhaps keeps_one) post_stays

  prod_stays : Stays (prod inside)
  prod_stays = keeps_pair neg_stays (keeps_each (keeps_pair (keeps_either word_stays (keeps_either word_stays word_stays)) neg_stays))

  sum_stays : Stays (sum inside)
  sum_stays = keeps_pair prod_stays (keeps_each (keeps_pair (keeps_either word_stays word_stays) prod_stays))

  comparison_stays : Stays comparison
  comparison_stays =
      keeps_either word_stays
      (keeps_either word_stays
      (keeps_either word_stays
      (keeps_either word_stays (keeps_either word_stays (keeps_either word_stays (keeps_either word_stays word_stays))))))

  cmp_stays : Stays (cmp inside)
  cmp_stays = keeps_pair sum_stays (keeps_perhaps (keeps_both comparison_stays sum_stays))

  not_stays : Stays (not inside)
  not_stays = keeps_pair (keeps_perhaps keeps_one) cmp_stays

  and_stays : Stays (and inside)
  and_stays = keeps_made (keeps_parted keeps_one not_stays)

  expr_stays : Stays (expr inside)
  expr_stays = keeps_made (keeps_parted keeps_one and_stays)

  formula_parts : Gives (formula inside) EachHasParts
  unfolding EachExpression
  formula_parts = made EachHasParts (gives_alone expr_stays) (λ n v h. row_all v.1 h)

  assign_parts : Gives (assign inside) EachHasParts
  unfolding EachExpression
  assign_parts = made EachHasParts (both (anything _) (behind formula_parts)) (λ n v h. h.1)

  -- what may be assigned
  assigns_parts : Gives (optional (assigns inside)) (IfThere (AllByRecursion EachHasParts))
  assigns_parts = perhaps (before (behind (parted assign_parts)))

  element_parts : Gives (celement inside) (λ e. AllByRecursion EachHasParts e.assigns)
  element_parts =
      made (λ e. AllByRecursion EachHasParts e.assigns) (both (anything _) (both (anything _) (both (anything _) (both (anything _) assigns_parts))))
      (λ n v h. listed_all v.1.1.1.1 h.1.1.1.1)

  new_node_parts : Gives (cnode inside) EachHasParts
  unfolding EachExpression
  new_node_parts = made EachHasParts (before (behind element_parts)) (λ n v h. row_all v.assigns h)

  new_edge_parts : Gives (new_edge inside) EachHasParts
  unfolding EachExpression
  new_edge_parts = made EachHasParts (edge_gives element_parts) (λ n v h. row_all v.0.assigns h)

  new_stored_parts : Gives (new_stored inside) EachHasParts
  unfolding EachExpression
  new_stored_parts =
      made EachHasParts (before (before (before (behind (behind (both (anything _) (both (anything _) assigns_parts)))))))
      (λ n v h. row_all (listed v.1.1) (listed_all v.1.1 h.1.1))

  new_link_parts : Gives (clink inside) EachHasParts
  unfolding EachExpression
  new_link_parts = either new_edge_parts (either (made EachHasParts (anything _) (λ n v h. tt)) new_stored_parts)

  change_parts : Gives (sub inside) EachHasParts
  unfolding EachExpression
  change_parts =
      either (made EachHasParts (both (anything _) (behind assign_parts)) (λ n v h. h.1))
      (either (made EachHasParts (anything _) (λ n v h. tt))
      (either (made EachHasParts (anything _) (λ n v h. tt)) (made EachHasParts (anything _) (λ n v h. tt))))

  item_parts : Gives (item inside) EachHasParts
  unfolding EachExpression
  item_parts =
      either (made EachHasParts (anything _) (λ n v h. tt))
      (made EachHasParts (both (linked_parts new_node_parts new_link_parts) (both (each change_parts) (perhaps (behind formula_parts))))
      (λ n v h. (row_all v.0 h.0, row_all v.1.0 h.1.0, maybe_all v.1.1 h.1.1)))

  where_parts : {A : Type 0} {W : Lang A} → Gives (optional (W ▸ formula inside) ⇒ (λ n v. maybe v)) EachHasParts
  where_parts {W = W} = made EachHasParts (perhaps {L = W ▸ formula inside} {P = EachHasParts} (behind formula_parts)) (λ n v h. maybe_all v h)

  block_parts : Gives (block inside) EachHasParts
  unfolding EachExpression
  block_parts = made EachHasParts (both (parted located_parts) where_parts) (λ n v h. (row_all v.0 h.0, h.1))

  optional_parts : Gives (optional_block inside) EachHasParts
  unfolding EachExpression
  optional_parts = made EachHasParts (behind block_parts) (λ n v h. h)

  basic_parts : Gives (basic inside) EachHasParts
  unfolding EachExpression
  basic_parts =
      made EachHasParts (both (behind (parted item_parts)) (both (behind block_parts) (each optional_parts)))
      (λ n v h. (row_all v.0 h.0, h.1.0, row_all v.1.1 h.1.1))

  term_parts : Gives (term inside) EachHasParts
  unfolding EachExpression
  term_parts =
      either (made EachHasParts basic_parts (λ n v h. h))
      (either (made EachHasParts (anything _) (λ n v h. tt))
      (made EachHasParts (before (behind queries)) (λ n v h. as_term_all v h)))

  named_parts : Gives (named_query inside) (λ v. ⊤ × EachHasParts v.1)
  named_parts = both (anything _) (behind (before (behind queries)))

  path_head_parts : Gives (path_head inside) EachHasParts
  unfolding EachExpression
  path_head_parts =
      made EachHasParts (both (anything _) (both (behind (parted vchain_parts)) (both where_parts (perhaps (behind formula_parts)))))
      (λ n v h. (rows_all v.1.0 h.1.0, h.1.1.0, maybe_all v.1.1.1 h.1.1.1))

  head_parts : Gives (head inside) EachHasParts
  unfolding EachExpression
  head_parts = either path_head_parts (made EachHasParts (behind named_parts) (λ n v h. h.1))

  next_parts : Gives (next_term inside) EachHasParts
  unfolding EachExpression
  next_parts = made EachHasParts (both (anything _) term_parts) (λ n v h. h.1)

  query_parts : Gives (query inside) EachHasParts
  query_parts = made EachHasParts (both (each head_parts) (both term_parts (each next_parts))) (λ n v h. as_query_all v.0 v.1.0 v.1.1 h.0 h.1.0 h.1.1)

  statement_parts : Gives (statement inside) EachHasParts
  unfolding EachExpression
  statement_parts = either (made EachHasParts (behind (behind named_parts)) (λ n v h. h.1)) (made EachHasParts query_parts (λ n v h. h))

  file_parts : Gives (file inside) (AllByRecursion EachHasParts)
  file_parts = before (parted statement_parts)

-- the same at each depth of brackets
stays_within : (depth : ℕ) → Stays (within depth).expr × Gives (within depth).query Query
stays_within zero = (record { keeps = λ p q ts e s h. absurd s }, record { gives = λ p q ts e s. absurd s })
stays_within (suc depth) =
    let deeper = stays_within depth in
    (expr_stays (within depth) deeper.0 deeper.1, query_parts (within depth) deeper.0 deeper.1)

-- the statements that tokens spell
pub spelled_parts : (ts : List Token) (statements : List (Tree AStatement)) → SpellsFile ts statements → EachHasParts (row statements)
spelled_parts ts statements s =
    let inner = stays_within s.1.0 in
    row_all statements ((file_parts (within s.1.0) inner.0 inner.1).gives start s.0 ts statements s.1.1)
