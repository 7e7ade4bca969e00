-- Queries, spelled anew.
use Rattle.std.proofs.Common.{◌≡◌, ℕ, zero, suc, ◌+◌, ◌≤◌, List, [], ◌∷◌, ◌++◌, map, Option, refl, sym, ap, subst, ◌∙◌, arith, append_assoc, codes}
use Rattle.std.specs.List.{flat_map}
use Rattle.gc_lex.specs.declared.token.Token.{Token}
use Rattle.gc_lex.specs.declared.token.Mark.TheVariants as mark
use Rattle.gc_ast.specs.declared.query.SetOp.{SetOp}
use Rattle.gc_ast.specs.declared.query.SetOp.TheVariants as op
use Rattle.gc_ast.specs.Trees as tree
use Rattle.gc_ast.specs.Trees.{Kind, RowOf, Tree, AStatement, AQuery, ANextTerm, ATerm, AHead, ABasic, ABlock, AnOptional, AFormula, AnItem, APattern, ALocated, Named, row, rows, maybe, Query, QueryTerm, BasicTerm, GraphTerm, none, more}
use Rattle.gc_grammar.specs.Words as words
use Rattle.gc_grammar.specs.Words.{Point, Lang, this, that, ◌⋅◌, ◌∣◌, ◌⇒◌, ◌▸◌, ◌◂◌, optional, many, separated}
use Rattle.gc_grammar.specs.Expressions.{in_parentheses}
use Rattle.gc_grammar.specs.Queries as grammar
use Rattle.gc_grammar.specs.Queries.{within, as_term, as_query, term, query}
use Rattle.gc_print_query.specs.Pieces.{Piece, Blank, Line}
use Rattle.gc_print_query.specs.ExpressionPieces.{word, mark_piece}
use Rattle.gc_print_query.specs.QueryPieces.{pieces_of, lined, clause, enclosed, named_query, op_word}
use Rattle.gc_print_query.specs.Tokens.{AreWritable}
use Rattle.gc_print_query.specs.Unnumbered.{unnumbered, unnumbered_name}
use Rattle.gc_print_query.proofs.Rereading.{Listed, SameExists, Again, Read, Reads, converted, made, rewritten, both, past, before, either, any_times, with_separators, a_name, deeper, shifted, followed, front_writable, back_writable}
use Rattle.gc_print_query.proofs.TokensRead.{spaced_mark, mark_line, line_mark, word_blank, spaced_word, line_word}
use Rattle.gc_print_query.proofs.Primaries.{InsideFine, inside_none, inside_deeper}
use Rattle.gc_print_query.proofs.PatternsRead.{row_pieces, row_unnumbered, row_flat, vchain_reads, located_reads}
use Rattle.gc_print_query.proofs.ConstructsRead.{clause_reads, maybe_unnumbered, item_reads}

-- ---- blocks

module _ {n D : ℕ} (inside : InsideFine n D) where
  where_reads : (depth : ℕ) → Reads n D (λ d. grammar.where_ (within d)) (λ x v. clause depth (codes "WHERE") (pieces_of n v)) unnumbered
  where_reads depth = made (λ m o. maybe o) (λ x v. clause depth (codes "WHERE") (pieces_of n v)) unnumbered maybe (λ x m o. refl) (λ m o. maybe_unnumbered o) (clause_reads depth (codes "WHERE") refl inside)

  block_reads : Reads n D (λ d. grammar.block (within d)) (λ x v. pieces_of n v) unnumbered
  unfolding pieces_of unnumbered
  block_reads =
      made (λ m (v : List (Tree ALocated) × Tree (RowOf AFormula)). tree.Block (row v.0) v.1) (λ x v. pieces_of n v) unnumbered (λ (v : List (Tree ALocated) × Tree (RowOf AFormula)). tree.Block (row v.0) v.1)
      (λ x m v. ap (λ lists. lined (n + 1) lists ++ clause n (codes "WHERE") (pieces_of n v.1)) (row_pieces n v.0))
      (λ m v. ap (λ r. tree.Block r (unnumbered v.1)) (row_unnumbered v.0))
      (both (with_separators located_reads (mark_line mark.Comma (n + 1))) (where_reads n))

  optional_reads : Reads n D (λ d. grammar.optional_block (within d)) (λ x v. Line n ∷ pieces_of n v) unnumbered
  unfolding pieces_of unnumbered
  optional_reads =
      made (λ m v. tree.Optional m v) (λ x v. Line n ∷ pieces_of n v) unnumbered (λ v. tree.Optional 0 v) (λ x m v. refl) (λ m v. refl) (past (line_word n (codes "OPTIONAL") refl) block_reads)

  basic_reads : Reads n D (λ d. grammar.basic (within d)) (λ x v. pieces_of n v) unnumbered
  unfolding pieces_of unnumbered
  basic_reads =
      made (λ m (v : List (Tree AnItem) × (Tree ABlock × List (Tree AnOptional))). tree.Basic m (row v.0) v.1.0 (row v.1.1)) (λ x v. pieces_of n v) unnumbered
      (λ (v : List (Tree AnItem) × (Tree ABlock × List (Tree AnOptional))). tree.Basic 0 (row v.0) v.1.0 (row v.1.1))
      (λ x m v. λ i. word (codes "CONSTRUCT") ∷ Blank
      ∷ (lined (n + 1) (row_pieces n v.0 i)
      ++ Line n ∷ word (codes "MATCH") ∷ Blank ∷ (pieces_of n v.1.0 ++ row_flat n (λ optional. Line n ∷ optional) v.1.1 i)))
      (λ m v. λ i. tree.Basic 0 (row_unnumbered v.0 i) (unnumbered v.1.0) (row_unnumbered v.1.1 i))
      (both (past (word_blank (codes "CONSTRUCT") refl) (with_separators (item_reads inside) (mark_line mark.Comma (n + 1))))
      (both (past (line_word n (codes "MATCH") refl) block_reads) (any_times optional_reads)))

-- ---- the same at other points

pub at_points : {A B : Type 0} {n D E : ℕ} {L : ℕ → Lang A} {f : List (List Piece) → A → List Piece} {e : A → B} {p q r s : Point} {v : A}
    → D ≤ E → r.exists ≡ p.exists → s.exists ≡ q.exists → Read n D L f e p q v → Read n E L f e r s v
at_points {n = n} {E = E} {L = L} {f = f} {e = e} {p = p} {q = q} {r = r} {s = s} {v = v} most front end read = record {
  grows = record { new = read.grows.new; is = end ∙ read.grows.is ∙ ap (λ qs. qs ++ read.grows.new) (sym front) };
  again = λ d deep x listed t same. by d deep x listed t same;
}
  where
    by : (d : ℕ) → E ≤ d → (x : List (List Piece)) → Listed n s.exists x → (t : Point) → SameExists t r → Again (L d) e (f x v) (e v) t s
    by d deep x listed t same =
        let a = read.again d (omega (arith, most, deep)) x (subst (λ qs. Listed n qs x) end listed) t (same ∙ ap (map unnumbered) front) in
        record { value = a.value; end = a.end; spelled = a.spelled; same = a.same; kept = a.kept ∙ sym (ap (map unnumbered) end); sound = a.sound }

-- ---- terms and queries that lose their parentheses

abbrev TermRead : (n D : ℕ) (p q : Point) → Tree ATerm → Type 0
TermRead n D p q t = Read n D (λ d. term (within d)) (λ x v. pieces_of n v) unnumbered p q t

abbrev QueryRead : (n D : ℕ) (p q : Point) → Tree AQuery → Type 0
QueryRead n D p q v = Read n D (λ d. query (within d)) (λ x v. pieces_of n v) unnumbered p q v

-- a term is spelled anew, and so is the query of one that is a query; a query is spelled anew, and so is the only term of one without heads
pub FineTree : (D : ℕ) (p q : Point) {k : Kind} → Tree k → Type 0
FineTree D p q (BasicTerm b) = (n : ℕ) → TermRead n D p q (BasicTerm b)
FineTree D p q (GraphTerm g) = (n : ℕ) → TermRead n D p q (GraphTerm g)
FineTree D p q (QueryTerm v) = ((n : ℕ) → TermRead n D p q (QueryTerm v)) × FineTree D p q v
FineTree D p q (Query none first none) = ((n : ℕ) → QueryRead n D p q (Query none first none)) × FineTree D p q first
FineTree D p q (Query none first (more t ts)) = (n : ℕ) → QueryRead n D p q (Query none first (more t ts))
FineTree D p q (Query (more h hs) first rest) = (n : ℕ) → QueryRead n D p q (Query (more h hs) first rest)
FineTree D p q other = Unit {0}

term_of : (D : ℕ) (p q : Point) (t : Tree ATerm) → FineTree D p q t → (n : ℕ) → TermRead n D p q t
unfolding FineTree
term_of D p q (BasicTerm b) fine = fine
term_of D p q (GraphTerm g) fine = fine
term_of D p q (QueryTerm v) fine = fine.0

query_of : (D : ℕ) (p q : Point) (v : Tree AQuery) → FineTree D p q v → (n : ℕ) → QueryRead n D p q v
unfolding FineTree
query_of D p q (Query none first none) fine = fine.0
query_of D p q (Query none first (more t ts)) fine = fine
query_of D p q (Query (more h hs) first rest) fine = fine

fine_moved : (D E : ℕ) (p q r s : Point) {k : Kind} (t : Tree k) → D ≤ E → r.exists ≡ p.exists → s.exists ≡ q.exists → FineTree D p q t → FineTree E r s t
unfolding FineTree
fine_moved D E p q r s (BasicTerm b) most front end fine = λ n. at_points most front end (fine n)
fine_moved D E p q r s (GraphTerm g) most front end fine = λ n. at_points most front end (fine n)
fine_moved D E p q r s (QueryTerm v) most front end fine = (λ n. at_points most front end (fine.0 n), fine_moved D E p q r s v most front end fine.1)
fine_moved D E p q r s (Query none first none) most front end fine = (λ n. at_points most front end (fine.0 n), fine_moved D E p q r s first most front end fine.1)
fine_moved D E p q r s (Query none first (more t ts)) most front end fine = λ n. at_points most front end (fine n)
fine_moved D E p q r s (Query (more h hs) first rest) most front end fine = λ n. at_points most front end (fine n)
fine_moved D E p q r s other most front end fine = tt

-- what brackets hold
pub record InsideQueries (D : ℕ) : Type 0 where
  pub fine : (p q : Point) (ts : List Token) (v : Tree AQuery) → AreWritable ts → (within D).query p ts v q → FineTree D p q v
  pub reads : (n : ℕ) → Reads n D (λ d. (within d).query) (λ x v. pieces_of n v) unnumbered

-- a query in parentheses
enclosed_pieces : (n : ℕ) (ps : List Piece) → enclosed n ps ≡ (mark_piece mark.OpenParenthesis ∷ Line (n + 1) ∷ ps) ++ Line n ∷ mark_piece mark.CloseParenthesis ∷ []
enclosed_pieces n ps = ap (λ t. mark_piece mark.OpenParenthesis ∷ Line (n + 1) ∷ t) (append_assoc ps (Line n ∷ []) (mark_piece mark.CloseParenthesis ∷ []))

enclosed_reads : (n : ℕ) {D : ℕ} → InsideQueries D → Reads n D (λ d. in_parentheses (within d).query) (λ x v. enclosed n (pieces_of (n + 1) v)) unnumbered
enclosed_reads n queries =
    rewritten (λ x v. enclosed n (pieces_of (n + 1) v)) (λ x v. enclosed_pieces n (pieces_of (n + 1) v))
    (before (past (mark_line mark.OpenParenthesis (n + 1)) (shifted (queries.reads (n + 1)))) (line_mark mark.CloseParenthesis n))

as_term_same : (v : Tree AQuery) → unnumbered (as_term v) ≡ as_term (unnumbered v)
unfolding unnumbered
as_term_same (Query none first none) = refl
as_term_same (Query none first (more t ts)) = refl
as_term_same (Query (more h hs) first rest) = refl

group_read : (n D : ℕ) → InsideQueries D → (p q : Point) (ts : List Token) (v : Tree AQuery) → AreWritable ts → in_parentheses (within D).query p ts v q → as_term v ≡ QueryTerm v
    → TermRead n D p q (QueryTerm v)
unfolding pieces_of
group_read n D queries p q ts v w s is =
    converted (λ d. term (within d)) (λ x t. pieces_of n t) unnumbered (λ m b. as_term b) as_term (QueryTerm v)
    (λ d r t us b l. that (that (record { value = b; spelled = l; made = refl }))) (λ m b. as_term_same b) (sym is) (λ x. refl) ((enclosed_reads n queries).read p q ts v w s)

group_fine : (D : ℕ) → InsideQueries D → (p q : Point) (ts : List Token) (v : Tree AQuery) → AreWritable ts → in_parentheses (within D).query p ts v q → FineTree D p q v → FineTree D p q (as_term v)
unfolding FineTree
group_fine D queries p q ts (Query none first none) w s fine = fine.1
group_fine D queries p q ts (Query none first (more t us)) w s fine = (λ n. group_read n D queries p q ts (Query none first (more t us)) w s refl, fine)
group_fine D queries p q ts (Query (more h hs) first rest) w s fine = (λ n. group_read n D queries p q ts (Query (more h hs) first rest) w s refl, fine)

module _ {D : ℕ} (inside : (n : ℕ) → InsideFine n D) (queries : InsideQueries D) where
  basic_term : (p q : Point) (ts : List Token) (t : Tree ATerm) → AreWritable ts → (grammar.basic (within D) ⇒ (λ n v. BasicTerm v)) p ts t q → FineTree D p q t
  unfolding FineTree pieces_of unnumbered
  basic_term p q ts t w s =
      subst (FineTree D p q) (sym s.made)
      (λ n. converted (λ d. term (within d)) (λ x t. pieces_of n t) unnumbered (λ m b. BasicTerm b) BasicTerm (BasicTerm s.value)
      (λ d r e us b l. this (record { value = b; spelled = l; made = refl })) (λ m b. refl) refl (λ x. refl) ((basic_reads (inside n)).read p q ts s.value w s.spelled))

  graph_term : (p q : Point) (ts : List Token) (t : Tree ATerm) → AreWritable ts → (words.name ⇒ (λ n v. GraphTerm v)) p ts t q → FineTree D p q t
  unfolding FineTree pieces_of unnumbered
  graph_term p q ts t w s =
      subst (FineTree D p q) (sym s.made)
      (λ n. converted (λ d. term (within d)) (λ x t. pieces_of n t) unnumbered (λ m b. GraphTerm b) GraphTerm (GraphTerm s.value)
      (λ d r e us b l. that (this (record { value = b; spelled = l; made = refl }))) (λ m b. refl) refl (λ x. refl) (a_name.read p q ts s.value w s.spelled))

  group_term : (p q : Point) (ts : List Token) (t : Tree ATerm) → AreWritable ts → (in_parentheses (within D).query ⇒ (λ n v. as_term v)) p ts t q → FineTree D p q t
  group_term p q ts t w s =
      let outer = s.spelled.spelled in
      let opened = outer.before.spelled in
      let w2 = back_writable opened.early opened.late (subst AreWritable opened.whole (front_writable outer.early outer.late (subst AreWritable outer.whole w))) in
      let own = queries.fine opened.between outer.between opened.late outer.before.value.1 w2 opened.behind in
      let value_is : s.value ≡ outer.before.value.1 = s.spelled.made ∙ outer.before.made in
      let fine : FineTree D p q s.value =
      subst (FineTree D p q) (sym value_is)
      (fine_moved D D opened.between outer.between p q outer.before.value.1 (omega arith) (sym (ap (λ (t : Point). t.exists) opened.before.after)) (ap (λ (t : Point). t.exists) outer.behind.after) own) in
      subst (FineTree D p q) (sym s.made) (group_fine D queries p q ts s.value w s.spelled fine)

  term_fine : (p q : Point) (ts : List Token) (t : Tree ATerm) → AreWritable ts → term (within D) p ts t q → FineTree D p q t
  term_fine p q ts t w (this s) = basic_term p q ts t w s
  term_fine p q ts t w (that (this s)) = graph_term p q ts t w s
  term_fine p q ts t w (that (that s)) = group_term p q ts t w s

  term_reads : (n : ℕ) → Reads n D (λ d. term (within d)) (λ x v. pieces_of n v) unnumbered
  term_reads n = record { read = λ p q ts t w s. term_of D p q t (term_fine p q ts t w s) n }

  -- ---- heads

  pub named_query_reads : (n : ℕ) → Reads {B = Named × Tree AQuery} n D (λ d. grammar.named_query (within d)) (λ x (v : Named × Tree AQuery). named_query n v.0 (pieces_of (n + 1) v.1)) (λ (v : Named × Tree AQuery). (unnumbered_name v.0, unnumbered v.1))
  named_query_reads n = both a_name (past (spaced_word (codes "AS") refl) (enclosed_reads n queries))

  rows_flat : (n : ℕ) (chains : List (List (Tree APattern))) → map (flat_map (λ part. part)) (pieces_of n (rows chains)) ≡ map (flat_map (pieces_of n)) chains
  unfolding pieces_of
  rows_flat n [] = refl
  rows_flat n (chain ∷ chains) = λ i. row_flat n (λ part. part) chain i ∷ rows_flat n chains i

  rows_unnumbered : (chains : List (List (Tree APattern))) → unnumbered (rows chains) ≡ rows (map (map unnumbered) chains)
  unfolding unnumbered
  rows_unnumbered [] = refl
  rows_unnumbered (chain ∷ chains) = λ i. more (row_unnumbered chain i) (rows_unnumbered chains i)

  path_head_reads : (n : ℕ) → Reads n D (λ d. grammar.path_head (within d)) (λ x v. pieces_of n v) unnumbered
  unfolding pieces_of unnumbered
  path_head_reads n =
      made (λ m (v : Named × (List (List (Tree APattern)) × (Tree (RowOf AFormula) × Option (Tree AFormula)))). tree.PathHead v.0 (rows v.1.0) v.1.1.0 (maybe v.1.1.1)) (λ x v. pieces_of n v) unnumbered
      (λ (v : Named × (List (List (Tree APattern)) × (Tree (RowOf AFormula) × Option (Tree AFormula)))). tree.PathHead v.0 (rows v.1.0) v.1.1.0 (maybe v.1.1.1))
      (λ x m v. ap (λ lists. word (codes "PATH") ∷ Blank ∷ word v.0.name ∷ Blank ∷ mark_piece mark.Equals ∷ Blank
      ∷ (lined (n + 1) lists ++ (clause (n + 1) (codes "WHERE") (pieces_of n v.1.1.0) ++ (clause (n + 1) (codes "COST") (pieces_of n (maybe v.1.1.1)) ++ Line n ∷ [])))) (rows_flat n v.1.0))
      (λ m v. λ i. tree.PathHead (unnumbered_name v.0) (rows_unnumbered v.1.0 i) (unnumbered v.1.1.0) (maybe_unnumbered v.1.1.1 i))
      (both (past (word_blank (codes "PATH") refl) a_name)
      (both (past (spaced_mark mark.Equals) (with_separators vchain_reads (mark_line mark.Comma (n + 1))))
      (both (where_reads (inside n) (n + 1)) (followed (Line n ∷ []) refl (tt, tt) (clause_reads (n + 1) (codes "COST") refl (inside n))))))

  graph_head_reads : (n : ℕ) → Reads n D (λ d. (words.the_word (codes "GRAPH") ▸ grammar.named_query (within d)) ⇒ (λ n v. tree.GraphHead v.0 v.1)) (λ x v. pieces_of n v) unnumbered
  unfolding pieces_of unnumbered
  graph_head_reads n =
      made (λ m (v : Named × Tree AQuery). tree.GraphHead v.0 v.1) (λ x v. pieces_of n v) unnumbered (λ (v : Named × Tree AQuery). tree.GraphHead v.0 v.1) (λ x m v. refl) (λ m v. refl)
      (followed (Line n ∷ []) refl (tt, tt) (past (word_blank (codes "GRAPH") refl) (named_query_reads n)))

  head_reads : (n : ℕ) → Reads n D (λ d. grammar.head (within d)) (λ x v. pieces_of n v) unnumbered
  head_reads n = either (path_head_reads n) (graph_head_reads n)

  -- ---- queries

  set_op_reads : (n : ℕ) → Reads n D (λ d. grammar.set_op) (λ x how. Line n ∷ word (op_word how) ∷ Blank ∷ []) (λ how. how)
  set_op_reads n =
      either (made (λ m u. op.Union) (λ x how. Line n ∷ word (op_word how) ∷ Blank ∷ []) (λ how. how) (λ u. op.Union) (λ x m u. refl) (λ m u. refl) (line_word n (codes "UNION") refl))
      (either (made (λ m u. op.Intersect) (λ x how. Line n ∷ word (op_word how) ∷ Blank ∷ []) (λ how. how) (λ u. op.Intersect) (λ x m u. refl) (λ m u. refl) (line_word n (codes "INTERSECT") refl))
      (made (λ m u. op.Minus) (λ x how. Line n ∷ word (op_word how) ∷ Blank ∷ []) (λ how. how) (λ u. op.Minus) (λ x m u. refl) (λ m u. refl) (line_word n (codes "MINUS") refl)))

  next_term_reads : (n : ℕ) → Reads n D (λ d. grammar.next_term (within d)) (λ x v. pieces_of n v) unnumbered
  unfolding pieces_of unnumbered
  next_term_reads n =
      made (λ m (v : SetOp × Tree ATerm). tree.NextTerm v.0 v.1) (λ x v. pieces_of n v) unnumbered (λ (v : SetOp × Tree ATerm). tree.NextTerm v.0 v.1) (λ x m v. refl) (λ m v. refl) (both (set_op_reads n) (term_reads n))

  query_pieces : (n : ℕ) (hs : List (Tree AHead)) (t : Tree ATerm) (rs : List (Tree ANextTerm)) → pieces_of n (Query (row hs) t (row rs)) ≡ flat_map (pieces_of n) hs ++ (pieces_of n t ++ flat_map (pieces_of n) rs)
  unfolding pieces_of
  query_pieces n hs t rs = λ i. row_flat n (λ head. head) hs i ++ (pieces_of n t ++ row_flat n (λ next. next) rs i)

  as_query_same : (hs : List (Tree AHead)) (t : Tree ATerm) (rs : List (Tree ANextTerm)) → unnumbered (as_query hs t rs) ≡ as_query (map unnumbered hs) (unnumbered t) (map unnumbered rs)
  unfolding unnumbered
  as_query_same [] (QueryTerm v) [] = refl
  as_query_same [] (BasicTerm b) [] = refl
  as_query_same [] (GraphTerm g) [] = refl
  as_query_same [] (QueryTerm v) (r ∷ rs) = ap (Query none (QueryTerm (unnumbered v))) (row_unnumbered (r ∷ rs))
  as_query_same [] (BasicTerm b) (r ∷ rs) = ap (Query none (BasicTerm (unnumbered b))) (row_unnumbered (r ∷ rs))
  as_query_same [] (GraphTerm g) (r ∷ rs) = ap (Query none (GraphTerm (unnumbered_name g))) (row_unnumbered (r ∷ rs))
  as_query_same (h ∷ hs) t rs = λ i. Query (row_unnumbered (h ∷ hs) i) (unnumbered t) (row_unnumbered rs i)

  abbrev Parts : Type 0
  Parts = List (Tree AHead) × (Tree ATerm × List (Tree ANextTerm))

  whole_read : (n : ℕ) (p q : Point) (ts : List Token) (v : Parts) → AreWritable ts → (many (grammar.head (within D)) ⋅ (term (within D) ⋅ many (grammar.next_term (within D)))) p ts v q
      → as_query v.0 v.1.0 v.1.1 ≡ Query (row v.0) v.1.0 (row v.1.1) → QueryRead n D p q (as_query v.0 v.1.0 v.1.1)
  whole_read n p q ts v w s is =
      converted (λ d. query (within d)) (λ x v. pieces_of n v) unnumbered (λ m (b : Parts). as_query b.0 b.1.0 b.1.1) (λ (b : Parts). as_query b.0 b.1.0 b.1.1) (as_query v.0 v.1.0 v.1.1)
      (λ d r e us b l. record { value = b; spelled = l; made = refl }) (λ m b. as_query_same b.0 b.1.0 b.1.1) refl
      (λ x. ap (pieces_of n) is ∙ query_pieces n v.0 v.1.0 v.1.1)
      ((both (any_times (head_reads n)) (both (term_reads n) (any_times (next_term_reads n)))).read p q ts v w s)

  -- a term that is a whole query
  alone : (p q : Point) (ts : List Token) (t : Tree ATerm) → AreWritable ts
      → (many (grammar.head (within D)) ⋅ (term (within D) ⋅ many (grammar.next_term (within D)))) p ts ([], (t, [])) q → FineTree D p q t
  alone p q ts t w s =
      let late = back_writable s.early s.late (subst AreWritable s.whole w) in
      let b = s.behind in
      let own = term_fine s.between b.between b.early t (front_writable b.early b.late (subst AreWritable b.whole late)) b.before in
      fine_moved D D s.between b.between p q t (omega arith) (sym (ap (λ (t : Point). t.exists) s.before.1)) (ap (λ (t : Point). t.exists) b.behind.1) own

  query_by : (p q : Point) (ts : List Token) (hs : List (Tree AHead)) (t : Tree ATerm) (rs : List (Tree ANextTerm)) → AreWritable ts
      → (many (grammar.head (within D)) ⋅ (term (within D) ⋅ many (grammar.next_term (within D)))) p ts (hs, (t, rs)) q → FineTree D p q (as_query hs t rs)
  unfolding FineTree
  query_by p q ts [] (QueryTerm v) [] w s = (alone p q ts (QueryTerm v) w s).1
  query_by p q ts [] (BasicTerm b) [] w s = (λ n. whole_read n p q ts ([], (BasicTerm b, [])) w s refl, alone p q ts (BasicTerm b) w s)
  query_by p q ts [] (GraphTerm g) [] w s = (λ n. whole_read n p q ts ([], (GraphTerm g, [])) w s refl, alone p q ts (GraphTerm g) w s)
  query_by p q ts [] (QueryTerm v) (r ∷ rs) w s = λ n. whole_read n p q ts ([], (QueryTerm v, r ∷ rs)) w s refl
  query_by p q ts [] (BasicTerm b) (r ∷ rs) w s = λ n. whole_read n p q ts ([], (BasicTerm b, r ∷ rs)) w s refl
  query_by p q ts [] (GraphTerm g) (r ∷ rs) w s = λ n. whole_read n p q ts ([], (GraphTerm g, r ∷ rs)) w s refl
  query_by p q ts (h ∷ hs) t rs w s = λ n. whole_read n p q ts (h ∷ hs, (t, rs)) w s refl

  pub query_fine : (p q : Point) (ts : List Token) (v : Tree AQuery) → AreWritable ts → query (within D) p ts v q → FineTree D p q v
  query_fine p q ts v w s = subst (FineTree D p q) (sym s.made) (query_by p q ts s.value.0 s.value.1.0 s.value.1.1 w s.spelled)

  pub query_reads : (n : ℕ) → Reads n D (λ d. query (within d)) (λ x v. pieces_of n v) unnumbered
  query_reads n = record { read = λ p q ts v w s. query_of D p q v (query_fine p q ts v w s) n }

  -- ---- statements

  view_reads : Reads 0 D (λ d. (words.the_word (codes "GRAPH") ▸ words.the_word (codes "VIEW") ▸ grammar.named_query (within d)) ⇒ (λ n v. tree.View v.0 v.1)) (λ x v. pieces_of 0 v) unnumbered
  unfolding pieces_of unnumbered
  view_reads =
      made (λ m (v : Named × Tree AQuery). tree.View v.0 v.1) (λ x v. pieces_of 0 v) unnumbered (λ (v : Named × Tree AQuery). tree.View v.0 v.1) (λ x m v. refl) (λ m v. refl)
      (past (word_blank (codes "GRAPH") refl) (past (word_blank (codes "VIEW") refl) (named_query_reads 0)))

  ask_reads : Reads 0 D (λ d. query (within d) ⇒ (λ n v. tree.Ask v)) (λ x v. pieces_of 0 v) unnumbered
  unfolding pieces_of unnumbered
  ask_reads = made (λ m v. tree.Ask v) (λ x v. pieces_of 0 v) unnumbered (λ v. tree.Ask v) (λ x m v. refl) (λ m v. refl) (query_reads 0)

  pub statement_reads : Reads 0 D (λ d. grammar.statement (within d)) (λ x v. pieces_of 0 v) unnumbered
  statement_reads = either view_reads ask_reads

-- ---- brackets by brackets

none_reads : (n : ℕ) → Reads n 0 (λ d. (within d).query) (λ x v. pieces_of n v) unnumbered
none_reads n = record { read = λ p q ts v w s. absurd s }

pub all_fine : (D : ℕ) → ((n : ℕ) → InsideFine n D) × InsideQueries D
all_fine zero = (λ n. inside_none (none_reads (n + 1)), record { fine = λ p q ts v w s. absurd s; reads = none_reads })
all_fine (suc D) =
    let below = all_fine D in
    let reads : (n : ℕ) → Reads n (suc D) (λ d. (within d).query) (λ x v. pieces_of n v) unnumbered = λ n. deeper (λ d. (within d).query) (query_reads below.0 below.1 n) in (
      λ n. inside_deeper (below.0 n) (reads (n + 1)),
      record {
        fine = λ p q ts v w s. fine_moved D (suc D) p q p q v (omega arith) refl refl (query_fine below.0 below.1 p q ts v w s);
        reads = reads;
      },
    )
