-- The CONSTRUCTs, names and elements of a file that tokens spell stand in the order of the text.
use Rattle.std.proofs.Common.{◌≡◌, ⊎_elim, ◌≤◌, ◌+◌, ◌||◌, ℕ, zero, suc, Bool, true, false, cond, List, [], ◌∷◌, ◌++◌, fold, Option, Some, None, refl, sym, ap, ◌∙◌, subst, arith}
use Rattle.std.specs.List.{Contains, list_any}
use Rattle.std.proofs.lemmas.List.Elements.{Contains-append_cases, Contains-push_cases}
use Rattle.std.specs.Cmp.Lexicographic.{bytes_decides}
use Rattle.std.proofs.lemmas.List.Folds.{list_any-append}
use Rattle.gc_lex.specs.declared.token.Token.{Token}
use Rattle.gc_lex.specs.declared.token.Token.TheVariants.{Word, Number, Text, Symbol}
use Rattle.gc_base.specs.declared.place.Direction.{Direction}
use Rattle.gc_ast.specs.Trees as tree
use Rattle.gc_ast.specs.Trees.{Tree, Kind, Named, AStatement, AQuery, ATerm, ANextTerm, AHead, APathBody, APattern, row}
use Rattle.gc_expr.specs.Trees.{ExprTree, ANode}
use Rattle.gc_expr.specs.Views.{Names}
use Rattle.gc_ast.specs.Names.{same_name, with_name}
use Rattle.gc_base.specs.Words.{is_reserved}
use Rattle.gc_parse_source.specs.Sources.{names_among, with_token}
use Rattle.gc_grammar.specs.Words.{Lang, One, optional, name, ◌▸◌, ◌⇒◌}
use Rattle.gc_grammar.specs.Regexes.{Expression, label, any, test, view, group, atom, star, cat, alt, regex_within}
use Rattle.gc_grammar.specs.Regexes as grammar
use Rattle.gc_grammar.specs.Patterns.{Unplaced, angled, chain, count, edge, edge_of, element, in_turn, labels, linked, listed, located, node, path, pathbody, placed, property_use, property_uses, vchain}
use Rattle.gc_grammar.specs.Expressions.{Inside, Expr, in_parentheses, indexed, folding, comparison, prim, post, neg, prod, sum, cmp, not, and, expr, formula}
use Rattle.gc_grammar.specs.Constructs.{assign, assigns, celement, cnode, new_edge, new_stored, clink, gterm, projected, sub, item}
use Rattle.gc_grammar.specs.Constructs as construct
use Rattle.gc_grammar.specs.Queries.{SpellsFile, start, as_term, as_query, block, optional_block, basic, term, named_query, path_head, head, next_term, query, statement, file, where_, within}
use Rattle.gc_query.specs.InOrder.{IsInOrder, IsNameIf, IsNameIn}
use Rattle.gcore.proofs.Spans.{Anywhere, HasNames, IfIn, InTurn, InTwo, Rises, Spans, Wide, anywhere, before_span, behind_span, both_span, each_span, either_span, made_spans, name_spans, next_span, parted_span, perhaps_span}
use Rattle.gcore.proofs.Spans.{rises_alone, rises_both, rises_each, rises_either, rises_made, rises_numbered, rises_one, rises_pair, rises_parted, rises_perhaps, rising}

-- regular path expressions go on among the tokens
word_rises : {A B : Type 0} {Means : Token → A → Type 0} {make : ℕ → A → B} → Rises (One Means ⇒ make)
word_rises = rises_made rises_one

label_rises : Rises label
label_rises = rises_pair (rises_pair rises_one rises_one) (rises_perhaps rises_one)

any_rises : Rises any
any_rises = rises_made (rises_pair rises_one (rises_perhaps rises_one))

test_rises : Rises test
test_rises = rises_made (rises_pair rises_one (rises_pair rises_one rises_one))

name_rises : Rises name
name_rises = rises_made rises_one

view_rises : Rises view
view_rises = rises_made (rises_pair rises_one name_rises)

star_rises : {inside : Lang Expression} → Rises inside → Rises (star inside)
star_rises h =
    rises_pair
    (rises_either label_rises (rises_either any_rises (rises_either test_rises (rises_either view_rises (rises_pair (rises_pair rises_one h) rises_one)))))
    (rises_perhaps rises_one)

cat_rises : {inside : Lang Expression} → Rises inside → Rises (cat inside)
cat_rises h = rises_made (rises_pair (star_rises h) (rises_each (star_rises h)))

alt_rises : {inside : Lang Expression} → Rises inside → Rises (alt inside)
alt_rises h = rises_made (rises_parted rises_one (cat_rises h))

within_rises : (depth : ℕ) → Rises (regex_within depth)
within_rises zero = record { rises = λ p q ts e s. absurd s }
within_rises (suc depth) = alt_rises (within_rises depth)

regex_rises : Rises grammar.regex
regex_rises = record { rises = λ p q ts e s. (within_rises s.0).rises p q ts e s.1 }

angled_rises : Rises angled
angled_rises = rises_made (rises_pair (rises_pair rises_one regex_rises) rises_one)

-- what stands in order between two numbers stands so between wider ones
pub record Widens : Type 0 where
  pub order : (names : Names) (k : Kind) (low from upto high : ℕ) (t : Tree k) → low ≤ from → upto ≤ high → IsInOrder names from t upto → IsInOrder names low t high
  pub named : (names : Names) (low from upto high : ℕ) (x : Named) → low ≤ from → upto ≤ high → IsNameIn names from x upto → IsNameIn names low x high
  pub perhaps : (names : Names) (low from upto high : ℕ) (o : Option Named) → low ≤ from → upto ≤ high → IsNameIf names from o upto → IsNameIf names low o high

module _ (widens : Widens) (names : Names) where
  abbrev Order : {k : Kind} → ℕ → Tree k → ℕ → Type 0
  Order from t upto = IsInOrder names from t upto

  abbrev Name : ℕ → Named → ℕ → Type 0
  Name from x upto = IsNameIn names from x upto

  order_wide : {k : Kind} → Wide (Order {k = k})
  order_wide = record { wider = λ low from upto high t l h n. widens.order names _ low from upto high t l h n }

  name_wide : Wide Name
  name_wide = record { wider = λ low from upto high x l h n. widens.named names low from upto high x l h n }

  anywhere_wide : {A : Type 0} → Wide (Anywhere {A = A})
  anywhere_wide = record { wider = λ low from upto high a l h n. omega (arith, l, h, n) }

  turn_wide : {A : Type 0} {P : ℕ → A → ℕ → Type 0} → Wide P → Wide (InTurn P)
  turn_wide {A = A} {P = P} w = record { wider = by }
    where
      by : (low from upto high : ℕ) (xs : List A) → low ≤ from → upto ≤ high → InTurn P from xs upto → InTurn P low xs high
      by low from upto high [] l h n = omega (arith, l, h, n)
      by low from upto high (x ∷ xs) l h n = (n.0, w.wider low from n.0 n.0 x l (omega arith) n.1, by n.0 n.0 upto high xs (omega arith) h n.2)

  -- trees one behind another, as a row
  row_order : {k : Kind} (from upto : ℕ) (ts : List (Tree k)) → InTurn Order from ts upto → Order from (row ts) upto
  unfolding IsInOrder
  row_order from upto [] h = h
  row_order from upto (t ∷ ts) h = (h.0, h.1, row_order h.0 upto ts h.2)

  if_name : (from upto : ℕ) (o : Option Named) → IfIn Name from o upto → IsNameIf names from o upto
  if_name from upto None h = h
  if_name from upto (Some x) h = h

  -- an element: its name, and then its properties
  record ElementIn (from : ℕ) (e : Unplaced) (upto : ℕ) : Type 0 where
    mid : ℕ
    named : IsNameIf names from e.name mid
    properties : Order mid (row e.properties) upto

  element_wide : Wide ElementIn
  element_wide = record {
    wider = λ low from upto high e l h n. record {
      mid = n.mid;
      named = widens.perhaps names low from n.mid n.mid e.name l (omega arith) n.named;
      properties = widens.order names _ n.mid n.mid upto high (row e.properties) (omega arith) h n.properties;
    };
  }

  labels_rise : Rises labels
  labels_rise = rises_pair rises_one (rises_parted rises_one rises_one)

  property_spans : Spans names property_use Order
  unfolding IsInOrder
  property_spans = made_spans Order (both_span (anywhere rises_one) (behind_span name_wide rises_one (name_spans))) (λ from upto v up h. widens.named names from h.mid upto upto v.1 h.low (omega arith) h.second)

  properties_span : Spans names property_uses (InTurn Order)
  properties_span = before_span (turn_wide order_wide) (behind_span (turn_wide order_wide) rises_one (parted_span order_wide rises_one property_spans)) rises_one

  listed_order : {k : Kind} (from upto : ℕ) (o : Option (List (Tree k))) → IfIn (InTurn Order) from o upto → Order from (row (listed o)) upto
  unfolding IsInOrder
  listed_order from upto None h = h
  listed_order from upto (Some ts) h = row_order from upto ts h

  element_spans : Spans names element ElementIn
  element_spans =
      made_spans ElementIn (both_span (perhaps_span (name_spans)) (both_span (anywhere (rises_each labels_rise)) (perhaps_span properties_span)))
      (λ from upto v up h. record {
        mid = h.mid;
        named = if_name from h.mid v.0 h.first;
        properties = widens.order names _ h.mid h.second.mid upto upto (row (listed v.1.1)) h.second.low (omega arith) (listed_order h.second.mid upto v.1.1 h.second.second);
      })

  -- an element whose pattern begins one token before
  placed_order : (from upto : ℕ) (e : Unplaced) → ElementIn (from + 1) e upto → Order from (placed from e) upto
  unfolding IsInOrder
  placed_order from upto e h = (h.mid, omega arith, h.named, h.properties)

  node_spans : Spans names node Order
  unfolding IsInOrder
  node_spans = made_spans Order (before_span next_wide (next_span element_spans) rises_one) (λ from upto e up h. placed_order from upto e h)
    where
      next_wide : Wide (λ from (e : Unplaced) upto. ElementIn (from + 1) e upto)
      next_wide = record { wider = λ low from upto high e l h n. element_wide.wider (low + 1) (from + 1) upto high e (omega (arith, l)) h n }

  -- what stands in an edge, behind its first token
  edge_span : {A : Type 0} {L : Lang A} {P : ℕ → A → ℕ → Type 0} → Wide P → Spans names L P → Spans names (edge_of L) (λ from v upto. P (from + 1) v.0 upto)
  edge_span {A = A} {L = L} {P = P} wide l =
      either_span
      (made_spans (λ from (v : A × Direction) upto. P (from + 1) v.0 upto) (both_span (before_span two_wide (before_span two_wide (next_span (next_span l)) rises_one) rises_one) (anywhere (rises_perhaps rises_one)))
      (λ from upto v up h. wide.wider (from + 1) ((from + 1) + 1) h.mid upto v.0 (omega arith) h.high h.first))
      (made_spans (λ from (v : A × Direction) upto. P (from + 1) v.0 upto) (before_span two_wide (before_span two_wide (next_span (next_span (behind_span wide rises_one l))) rises_one) rises_one)
      (λ from upto v up h. wide.wider (from + 1) ((from + 1) + 1) upto upto v (omega arith) (omega arith) h))
    where
      two_wide : Wide (λ from a upto. P ((from + 1) + 1) a upto)
      two_wide = record { wider = λ low from upto high a x y n. wide.wider ((low + 1) + 1) ((from + 1) + 1) upto high a (omega (arith, x)) y n }

  edge_spans : Spans names edge Order
  unfolding IsInOrder
  edge_spans = made_spans Order (edge_span element_wide element_spans) (λ from upto v up h. placed_order from upto v.0 h)

  BodyIn : ℕ → ℕ × Tree APathBody → ℕ → Type 0
  BodyIn from v upto = Order from v.1 upto

  body_wide : Wide BodyIn
  unfolding BodyIn
  body_wide = record { wider = λ low from upto high v l h n. widens.order names _ low from upto high v.1 l h n }

  count_rises : Rises count
  count_rises = rises_made (rises_pair rises_one rises_one)

  body_spans : Spans names pathbody BodyIn
  unfolding BodyIn IsInOrder
  body_spans =
      either_span (made_spans BodyIn (anywhere angled_rises) (λ from upto v up h. h))
      (either_span
      (made_spans BodyIn
      (both_span (anywhere (rises_perhaps count_rises)) (both_span (name_spans) (both_span (anywhere angled_rises) (perhaps_span (behind_span name_wide rises_one (name_spans))))))
      (λ from upto v up h.
      let inner = h.second in
      let late = inner.second in (
        inner.mid,
        widens.named names from h.mid inner.mid inner.mid v.1.0 h.low (omega arith) inner.first,
        widens.perhaps names inner.mid late.mid upto upto v.1.1.1 late.low (omega arith) (if_name late.mid upto v.1.1.1 late.second),
      )))
      (either_span
      (made_spans BodyIn (both_span (behind_span name_wide rises_one (name_spans)) (anywhere angled_rises)) (λ from upto v up h. widens.named names from from h.mid upto v.0 (omega arith) h.high h.first))
      (made_spans BodyIn (both_span (behind_span name_wide rises_one (name_spans)) (anywhere (rises_each labels_rise))) (λ from upto v up h. widens.named names from from h.mid upto v.0 (omega arith) h.high h.first))))

  path_spans : Spans names path Order
  unfolding BodyIn IsInOrder
  path_spans =
      made_spans Order (before_span body_wide (before_span body_wide (before_span body_wide (behind_span body_wide rises_one (behind_span body_wide rises_one body_spans)) rises_one) rises_one) rises_one)
      (λ from upto v up h. h)

  -- nodes and links in turn
  turns : {A : Type 0} (P : ℕ → A → ℕ → Type 0) (from upto : ℕ) (pairs : List (A × A)) → InTurn (InTwo P P) from pairs upto → InTurn P from (in_turn pairs) upto
  turns P from upto [] h = h
  turns P from upto (pair ∷ pairs) h = (h.1.mid, h.1.first, (h.0, h.1.second, turns P h.0 upto pairs h.2))

  linked_span : {A : Type 0} {N L : Lang A} {P : ℕ → A → ℕ → Type 0} → Spans names N P → Spans names L P → Spans names (linked N L) (InTurn P)
  linked_span {P = P} n l = made_spans (InTurn P) (both_span n (each_span (both_span l n))) (λ from upto v up h. (h.mid, h.first, turns P h.mid upto v.1 h.second))

  chain_spans : Spans names chain (InTurn Order)
  chain_spans = linked_span node_spans (either_span edge_spans path_spans)

  vchain_rises : Rises vchain
  vchain_rises = rising (linked_span node_spans edge_spans)

  located_spans : Spans names located Order
  unfolding IsInOrder
  located_spans = made_spans Order (both_span chain_spans (anywhere (rises_perhaps (rises_pair rises_one name_rises)))) (λ from upto v up h. (h.mid, row_order from h.mid v.0 h.first, h.high))

  -- the productions, where what stands in their brackets goes on among the tokens and stands in order
  module _ (inside : Inside) (deeper : Rises inside.expr) (queries : Spans names inside.query Order) where
    parentheses_rise : {A : Type 0} {L : Lang A} → Rises L → Rises (in_parentheses L)
    parentheses_rise l = rises_pair (rises_pair rises_one l) rises_one

    call_rises : {A B : Type 0} {W : Lang A} {L : Lang B} → Rises W → Rises L → Rises (W ▸ in_parentheses L)
    call_rises w l = rises_pair w (parentheses_rise l)

    indexed_rises : (what : List ℕ) (make : List ℕ → Expr → ExprTree ANode) → Rises (indexed what make inside)
    indexed_rises what make = rises_pair (call_rises rises_one name_rises) (rises_pair (rises_pair rises_one deeper) rises_one)

    folding_rises : Rises folding
    folding_rises = rises_either word_rises (rises_either word_rises (rises_either word_rises (rises_either word_rises word_rises)))

    prim_rises : Rises (prim inside)
    prim_rises =
        rises_either (rises_made rises_one)
        (rises_either (rises_made rises_one)
        (rises_either (rises_made rises_one)
        (rises_either (rises_made rises_one)
        (rises_either (rises_made name_rises)
        (rises_either (parentheses_rise deeper)
        (rises_either (rises_made (call_rises rises_one (rises_numbered (rising queries))))
        (rises_either (indexed_rises _ _)
        (rises_either (indexed_rises _ _)
        (rises_either (rises_made (call_rises rises_one name_rises))
        (rises_either (rises_made (call_rises rises_one rises_one))
        (rises_pair folding_rises (parentheses_rise deeper))))))))))))

    post_rises : Rises (post inside)
    post_rises = rises_pair prim_rises (rises_perhaps (rises_either (rises_made (rises_pair rises_one rises_one)) (rises_made (rises_pair rises_one rises_one))))

    neg_rises : Rises (neg inside)
    neg_rises = rises_pair (rises_perhaps rises_one) post_rises

    prod_rises : Rises (prod inside)
    prod_rises = rises_pair neg_rises (rises_each (rises_pair (rises_either word_rises (rises_either word_rises word_rises)) neg_rises))

    sum_rises : Rises (sum inside)
    sum_rises = rises_pair prod_rises (rises_each (rises_pair (rises_either word_rises word_rises) prod_rises))

    comparison_rises : Rises comparison
    comparison_rises =
        rises_either word_rises
        (rises_either word_rises (rises_either word_rises (rises_either word_rises (rises_either word_rises (rises_either word_rises (rises_either word_rises word_rises))))))

    cmp_rises : Rises (cmp inside)
    cmp_rises = rises_pair sum_rises (rises_perhaps (rises_both comparison_rises sum_rises))

    not_rises : Rises (not inside)
    not_rises = rises_pair (rises_perhaps rises_one) cmp_rises

    and_rises : Rises (and inside)
    and_rises = rises_made (rises_parted rises_one not_rises)

    pub expr_rises : Rises (expr inside)
    expr_rises = rises_made (rises_parted rises_one and_rises)

    formula_rises : Rises (formula inside)
    formula_rises = rises_made (rises_alone expr_rises)

    assign_rises : Rises (assign inside)
    assign_rises = rises_made (rises_both rises_one (rises_pair rises_one formula_rises))

    assigns_rise : Rises (optional (assigns inside))
    assigns_rise = rises_perhaps (rises_pair (rises_pair rises_one (rises_parted rises_one assign_rises)) rises_one)

    gterm_rises : Rises gterm
    gterm_rises = rises_made (rises_both name_rises (rises_perhaps (rises_pair rises_one rises_one)))

    group_rises : Rises construct.group
    group_rises = rises_pair rises_one (rises_parted rises_one gterm_rises)

    label_rise : Rises construct.label
    label_rise = rises_pair rises_one rises_one

    -- a new element: its name
    NewIn : ℕ → construct.Unplaced → ℕ → Type 0
    NewIn from e upto = IsNameIf names from e.name upto

    new_wide : Wide NewIn
    unfolding NewIn
    new_wide = record { wider = λ low from upto high e l h n. widens.perhaps names low from upto high e.name l h n }

    new_spans : Spans names (celement inside) NewIn
    unfolding NewIn
    new_spans =
        made_spans NewIn
        (both_span (perhaps_span (name_spans)) (anywhere (rises_both (rises_perhaps (rises_pair rises_one name_rises)) (rises_both (rises_perhaps group_rises) (rises_both (rises_each label_rise) assigns_rise)))))
        (λ from upto v up h. widens.perhaps names from from h.mid upto v.0 (omega arith) h.high (if_name from h.mid v.0 h.first))

    new_placed : (from upto : ℕ) (e : construct.Unplaced) → NewIn (from + 1) e upto → Order from (construct.placed from e) upto
    unfolding NewIn IsInOrder
    new_placed from upto e h = (omega arith, h)

    new_node_spans : Spans names (cnode inside) Order
    unfolding IsInOrder
    new_node_spans = made_spans Order (before_span next_wide (next_span new_spans) rises_one) (λ from upto e up h. new_placed from upto e h)
      where
        next_wide : Wide (λ from (e : construct.Unplaced) upto. NewIn (from + 1) e upto)
        next_wide = record { wider = λ low from upto high e l h n. new_wide.wider (low + 1) (from + 1) upto high e (omega (arith, l)) h n }

    new_edge_spans : Spans names (new_edge inside) Order
    unfolding IsInOrder
    new_edge_spans = made_spans Order (edge_span new_wide new_spans) (λ from upto v up h. new_placed from upto v.0 h)

    slashes_rise : {A : Type 0} {L : Lang A} → Rises L → Rises (construct.in_slashes L)
    slashes_rise l = rises_pair (rises_pair (rises_pair (rises_pair rises_one (rises_pair rises_one l)) rises_one) rises_one) rises_one

    projected_spans : Spans names projected Order
    unfolding IsInOrder
    projected_spans = made_spans Order (anywhere (slashes_rise name_rises)) (λ from upto v up h. up)

    StoredIn : {B : Type 0} → ℕ → Named × B → ℕ → Type 0
    StoredIn from v upto = Name from v.0 upto

    stored_wide : {B : Type 0} → Wide (StoredIn {B = B})
    unfolding StoredIn
    stored_wide = record { wider = λ low from upto high v l h n. widens.named names low from upto high v.0 l h n }

    stored_spans : Spans names (new_stored inside) Order
    unfolding StoredIn IsInOrder
    stored_spans =
        made_spans Order
        (before_span stored_wide (before_span stored_wide (before_span stored_wide (behind_span stored_wide rises_one (behind_span stored_wide rises_one
        (made_stored (both_span (behind_span name_wide rises_one (name_spans)) (anywhere (rises_both (rises_each label_rise) assigns_rise)))))) rises_one) rises_one) rises_one)
        (λ from upto v up h. h)
      where
        made_stored : {B : Type 0} {L : Lang (Named × B)} → Spans names L (InTwo Name Anywhere) → Spans names L StoredIn
        made_stored l = record { up = l.up; spans = λ p q ts v s h. let two = l.spans p q ts v s h in widens.named names p.token p.token two.mid q.token v.0 (omega arith) two.high two.first }

    new_link_spans : Spans names (clink inside) Order
    new_link_spans = either_span new_edge_spans (either_span projected_spans stored_spans)

    sub_rises : Rises (sub inside)
    sub_rises =
        rises_either (rises_made (rises_both (rises_pair rises_one name_rises) (rises_pair rises_one assign_rises)))
        (rises_either (rises_made (rises_both (rises_pair rises_one name_rises) label_rise))
        (rises_either (rises_made (rises_both (rises_pair rises_one name_rises) (rises_pair rises_one rises_one))) (rises_made (rises_both (rises_pair rises_one name_rises) label_rise))))

    item_spans : Spans names (item inside) Order
    unfolding IsInOrder
    item_spans =
        either_span (made_spans Order (anywhere name_rises) (λ from upto v up h. up))
        (made_spans Order
        (both_span (linked_span new_node_spans new_link_spans) (anywhere (rises_both (rises_each sub_rises) (rises_perhaps (rises_pair rises_one formula_rises)))))
        (λ from upto v up h. (h.mid, row_order from h.mid v.0 h.first, h.high)))

    where_rises : Rises (where_ inside)
    where_rises = rises_made (rises_perhaps (rises_pair rises_one formula_rises))

    block_spans : Spans names (block inside) Order
    unfolding IsInOrder
    block_spans = made_spans Order (both_span (parted_span order_wide rises_one located_spans) (anywhere where_rises)) (λ from upto v up h. (h.mid, row_order from h.mid v.0 h.first, h.high))

    optional_spans : Spans names (optional_block inside) Order
    unfolding IsInOrder
    optional_spans = made_spans Order (behind_span order_wide rises_one block_spans) (λ from upto v up h. h)

    basic_spans : Spans names (basic inside) Order
    unfolding IsInOrder
    basic_spans =
        made_spans Order
        (both_span (next_span (parted_span order_wide rises_one item_spans)) (both_span (behind_span order_wide rises_one block_spans) (each_span optional_spans)))
        (λ from upto v up h.
        (h.mid, h.second.mid, omega arith, row_order (from + 1) h.mid v.0 h.first, h.second.first, row_order h.second.mid upto v.1.1 h.second.second))

    -- a query as a term, and a term as a query
    as_term_order : (from upto : ℕ) (q : Tree AQuery) → Order from q upto → Order from (as_term q) upto
    unfolding IsInOrder
    as_term_order from upto (tree.Query tree.none first tree.none) h = widens.order names _ from h.0 h.1 upto first h.2 h.4 h.3
    as_term_order from upto (tree.Query tree.none first (tree.more t ts)) h = h
    as_term_order from upto (tree.Query (tree.more t ts) first rest) h = h

    as_query_order : (from mid late upto : ℕ) (heads : List (Tree AHead)) (first : Tree ATerm) (rest : List (Tree ANextTerm)) → Order from (row heads) mid → Order mid first late → Order late (row rest) upto
        → Order from (as_query heads first rest) upto
    unfolding IsInOrder
    as_query_order from mid late upto [] (tree.QueryTerm q) [] h f r = widens.order names _ from mid late upto q h r f
    as_query_order from mid late upto [] (tree.QueryTerm q) (t ∷ ts) h f r = (mid, late, h, f, r)
    as_query_order from mid late upto [] (tree.BasicTerm b) rest h f r = (mid, late, h, f, r)
    as_query_order from mid late upto [] (tree.GraphTerm g) rest h f r = (mid, late, h, f, r)
    as_query_order from mid late upto (t ∷ ts) first rest h f r = (mid, late, h, f, r)

    term_spans : Spans names (term inside) Order
    unfolding IsInOrder
    term_spans =
        either_span (made_spans Order basic_spans (λ from upto v up h. h))
        (either_span (made_spans Order (anywhere name_rises) (λ from upto v up h. up))
        (made_spans Order (before_span order_wide (behind_span order_wide rises_one queries) rises_one) (λ from upto v up h. as_term_order from upto v h)))

    NamedIn : ℕ → Named × Tree AQuery → ℕ → Type 0
    NamedIn from v upto = Order from v.1 upto

    named_wide : Wide NamedIn
    unfolding NamedIn
    named_wide = record { wider = λ low from upto high v l h n. widens.order names _ low from upto high v.1 l h n }

    named_spans : Spans names (named_query inside) NamedIn
    unfolding NamedIn
    named_spans = in_two (both_span (anywhere name_rises) (behind_span order_wide rises_one (before_span order_wide (behind_span order_wide rises_one queries) rises_one)))
      where
        in_two : Spans names (named_query inside) (InTwo Anywhere Order) → Spans names (named_query inside) NamedIn
        in_two l = record { up = l.up; spans = λ p q ts v s h. let two = l.spans p q ts v s h in widens.order names _ p.token two.mid q.token q.token v.1 two.low (omega arith) two.second }

    path_head_spans : Spans names (path_head inside) Order
    unfolding IsInOrder
    path_head_spans =
        made_spans Order
        (both_span (behind_span name_wide rises_one (name_spans))
        (anywhere (rises_both (rises_pair rises_one (rises_parted rises_one vchain_rises)) (rises_both where_rises (rises_perhaps (rises_pair rises_one formula_rises))))))
        (λ from upto v up h. (h.first.low, (let a = h.first.high in let b = h.high in omega (arith, a, b))))

    head_spans : Spans names (head inside) Order
    unfolding NamedIn IsInOrder
    head_spans = either_span path_head_spans (made_spans Order (behind_span named_wide rises_one named_spans) (λ from upto v up h. h))

    next_spans : Spans names (next_term inside) Order
    unfolding IsInOrder
    next_spans =
        made_spans Order (both_span (anywhere (rises_either word_rises (rises_either word_rises word_rises))) term_spans) (λ from upto v up h. widens.order names _ from h.mid upto upto v.1 h.low (omega arith) h.second)

    pub query_spans : Spans names (query inside) Order
    query_spans =
        made_spans Order (both_span (each_span head_spans) (both_span term_spans (each_span next_spans)))
        (λ from upto v up h. as_query_order from h.mid h.second.mid upto v.0 v.1.0 v.1.1 (row_order from h.mid v.0 h.first) h.second.first (row_order h.second.mid upto v.1.1 h.second.second))

    statement_spans : Spans names (statement inside) Order
    unfolding NamedIn IsInOrder
    statement_spans =
        either_span (made_spans Order (behind_span named_wide rises_one (behind_span named_wide rises_one named_spans)) (λ from upto v up h. h)) (made_spans Order query_spans (λ from upto v up h. h))

    pub file_spans : Spans names (file inside) (InTurn Order)
    file_spans = before_span (turn_wide order_wide) (parted_span order_wide rises_one statement_spans) (rises_perhaps rises_one)

  -- the same at each depth of brackets
  within_spans : (depth : ℕ) → Rises (within depth).expr × Spans names (within depth).query Order
  within_spans zero = (record { rises = λ p q ts e s. absurd s }, record { up = λ p q ts e s. absurd s; spans = λ p q ts e s h. absurd s })
  within_spans (suc depth) =
      let deeper = within_spans depth in
      (expr_rises (within depth) deeper.0 deeper.1, query_spans (within depth) deeper.0 deeper.1)

-- the words among tokens that are not reserved are names of their table
with_more : (names : Names) (t : Token) (w : List ℕ) → list_any (same_name w) names ≡ true → list_any (same_name w) (with_token names t) ≡ true
with_more names (Word a) w h = by (is_reserved a)
  where
    appended : list_any (same_name w) (names ++ a ∷ []) ≡ true
    appended = list_any-append (same_name w) names (a ∷ []) ∙ ap (λ b. b || list_any (same_name w) (a ∷ [])) h

    named : (b : Bool) → list_any (same_name w) (cond b names (names ++ a ∷ [])) ≡ true
    named true = h
    named false = appended

    by : (b : Bool) → list_any (same_name w) (cond b names (with_name names a)) ≡ true
    by true = h
    by false = named (list_any (same_name a) names)
with_more names (Number n) w h = h
with_more names (Text t) w h = h
with_more names (Symbol m) w h = h

tokens_more : (names : Names) (ts : List Token) (w : List ℕ) → list_any (same_name w) names ≡ true → list_any (same_name w) (fold with_token names ts) ≡ true
tokens_more names [] w h = h
tokens_more names (t ∷ ts) w h = tokens_more (with_token names t) ts w (with_more names t w h)

with_own : (names : Names) (w : List ℕ) → is_reserved w ≡ false → list_any (same_name w) (with_token names (Word w)) ≡ true
with_own names w free = ap (λ b. list_any (same_name w) (cond b names (with_name names w))) free ∙ named (list_any (same_name w) names) refl
  where
    named : (b : Bool) → list_any (same_name w) names ≡ b → list_any (same_name w) (cond b names (names ++ w ∷ [])) ≡ true
    named true is = is
    named false is =
        list_any-append (same_name w) names (w ∷ [])
        ∙ (ap (λ b. b || list_any (same_name w) (w ∷ [])) is ∙ ap (λ b. b || false) ((bytes_decides w w).1 refl))

only : (t u : Token) → Contains (t ∷ []) u → t ≡ u
only t u m = ⊎_elim (λ none. absurd (omega (arith, none.1))) (λ e. e) (Contains-push_cases [] t u m)

has_names : (names : Names) (ts : List Token) → HasNames (fold with_token names ts) ts
has_names names [] w m free = absurd (omega (arith, m.1))
has_names names (t ∷ ts) w m free =
    ⊎_elim
    (λ h. tokens_more (with_token names t) ts w (subst (λ (u : Token). list_any (same_name w) (with_token names u) ≡ true) (sym (only t (Word w) h)) (with_own names w free)))
    (λ k. has_names (with_token names t) ts w k free)
    (Contains-append_cases (t ∷ []) ts (Word w) m)

-- the statements that tokens spell
pub spelled_order : Widens → (ts : List Token) (statements : List (Tree AStatement)) → SpellsFile ts statements → (upto : ℕ) × IsInOrder (names_among ts) 0 (row statements) upto
spelled_order widens ts statements s =
    let names = names_among ts in
    let inner = within_spans widens names s.1.0 in
    (s.0.token, row_order widens names 0 s.0.token statements ((file_spans widens names (within s.1.0) inner.0 inner.1).spans start s.0 ts statements s.1.1 (has_names [] ts)))
