-- Primaries, spelled anew; and from them expressions, brackets by brackets.
use Rattle.std.proofs.Common.{◌≡◌, ℕ, suc, ◌+◌, ◌≤◌, true, false, List, [], ◌∷◌, ◌++◌, map, length, Some, None, refl, sym, ap, subst, ◌∙◌, arith, codes}
use Rattle.std.specs.Prelude.{slice_index_or, slice_get}
use Rattle.std.proofs.lemmas.List.{append-nil}
use Rattle.gc_lex.specs.declared.token.Token.{Token}
use Rattle.gc_lex.specs.declared.token.Token.TheVariants.{Symbol}
use Rattle.gc_lex.specs.declared.token.Mark.TheVariants as mark
use Rattle.gc_expr.specs.declared.expr.Fold.{Fold}
use Rattle.gc_expr.specs.declared.expr.Fold.TheVariants as fold
use Rattle.gc_expr.specs.Trees as tree
use Rattle.gc_expr.specs.Trees.{ExprTree, AnExpr, ANode, At, maybe}
use Rattle.gc_ast.specs.Trees.{Tree, AQuery, Named}
use Rattle.gc_grammar.specs.Words as words
use Rattle.gc_grammar.specs.Words.{Point, Lang, next, this, that, ◌⋅◌, ◌∣◌, ◌⇒◌, ◌▸◌, ◌◂◌, Made, Numbered, numbered, as_value, number, text}
use Rattle.gc_grammar.specs.Expressions.{Expr, in_parentheses, indexed, folding, prim}
use Rattle.gc_grammar.specs.Queries.{within, query}
use Rattle.gc_grammar.proofs.Spellings.{spells_inside}
use Rattle.gc_print_query.specs.Pieces.{Piece, Line}
use Rattle.gc_print_query.specs.ExpressionPieces.{word, mark_piece, parenthesized, closed, parts_of, fold_word}
use Rattle.gc_print_query.specs.QueryPieces.{pieces_of, enclosed}
use Rattle.gc_print_query.specs.Tokens.{tokens_in, AreWritable}
use Rattle.gc_print_query.specs.Unnumbered.{unnumbered, unnumbered_expr}
use Rattle.gc_print_query.proofs.LexedPieces.{AreSound}
use Rattle.gc_print_query.proofs.Rereading.{Grows, Listed, listed_own, SameExists, Again, Reads, converted, made, both, past, before, either, rewritten, deeper, a_name, a_number, a_text, tokens_append, sound_append, front_writable, back_writable}
use Rattle.gc_print_query.proofs.TokensRead.{lone_mark, lone_word, word_blank}
use Rattle.gc_print_query.proofs.ExpressionLevels.{level, Fine, FineRead, operand, fresh, turned, closed_within, closed_over, Compared, Within, Over, compare, loosened_to}
use Rattle.gc_print_query.proofs.Operators.{post_fine, neg_fine, prod_fine, sum_fine, cmp_fine, not_fine, and_fine, expr_fine}

-- an expression of which brackets hold one more
pub record InsideRead (n D : ℕ) (p q : Point) (v : Expr) : Type 0 where
  pub grows : Grows p.exists q.exists
  pub bare : (d : ℕ) → D ≤ d → (x : List (List Piece)) → Listed n q.exists x → (r : Point) → SameExists r p → Again (level (parts_of x v).rank (within d)) unnumbered_expr (parts_of x v).pieces (unnumbered_expr v) r q
  pub whole : (d : ℕ) → D ≤ d → (x : List (List Piece)) → Listed n q.exists x → (r : Point) → SameExists r p → Again ((within d).expr) unnumbered_expr (parts_of x v).pieces (unnumbered_expr v) r q

-- what brackets hold is spelled anew
pub record InsideFine (n D : ℕ) : Type 0 where
  pub expr : (p q : Point) (ts : List Token) (v : Expr) → AreWritable ts → (within D).expr p ts v q → InsideRead n D p q v
  pub query : Reads (n + 1) D (λ d. (within d).query) (λ x v. pieces_of (n + 1) v) unnumbered

inside_reads : {n D : ℕ} → InsideFine n D → Reads n D (λ d. (within d).expr) (λ x (v : Expr). (parts_of x v).pieces) unnumbered_expr
inside_reads inside = record { read = λ p q ts v w s. let r = inside.expr p q ts v w s in record { grows = r.grows; again = r.whole } }

-- in parentheses
pub parenthesized_reads : {A B : Type 0} {n D : ℕ} {L : ℕ → Lang A} {f : List (List Piece) → A → List Piece} {e : A → B}
    → Reads n D L f e → Reads n D (λ d. in_parentheses (L d)) (λ x v. parenthesized (f x v)) e
parenthesized_reads reads = before (past (lone_mark mark.OpenParenthesis) reads) (lone_mark mark.CloseParenthesis)

abbrev PrimReads : (n D : ℕ) → (ℕ → Lang Expr) → Type 0
PrimReads n D L = Reads n D L (λ x (v : Expr). (parts_of x v).pieces) unnumbered_expr

number_reads : {n D : ℕ} → PrimReads n D (λ d. number ⇒ (λ n v. At n (tree.Number v)))
unfolding parts_of unnumbered_expr
number_reads = made (λ m v. At m (tree.Number v)) (λ x (v : Expr). (parts_of x v).pieces) unnumbered_expr (λ v. At 0 (tree.Number v)) (λ x m v. refl) (λ m v. refl) a_number

text_reads : {n D : ℕ} → PrimReads n D (λ d. text ⇒ (λ n v. At n (tree.Text v)))
unfolding parts_of unnumbered_expr
text_reads = made (λ m v. At m (tree.Text v)) (λ x (v : Expr). (parts_of x v).pieces) unnumbered_expr (λ v. At 0 (tree.Text v)) (λ x m v. refl) (λ m v. refl) a_text

true_reads : {n D : ℕ} → PrimReads n D (λ d. words.the_word (codes "TRUE") ⇒ (λ n v. At n (tree.Truth true)))
unfolding parts_of unnumbered_expr
true_reads = made (λ m v. At m (tree.Truth true)) (λ x (v : Expr). (parts_of x v).pieces) unnumbered_expr (λ v. At 0 (tree.Truth true)) (λ x m v. refl) (λ m v. refl) (lone_word (codes "TRUE") refl)

false_reads : {n D : ℕ} → PrimReads n D (λ d. words.the_word (codes "FALSE") ⇒ (λ n v. At n (tree.Truth false)))
unfolding parts_of unnumbered_expr
false_reads = made (λ m v. At m (tree.Truth false)) (λ x (v : Expr). (parts_of x v).pieces) unnumbered_expr (λ v. At 0 (tree.Truth false)) (λ x m v. refl) (λ m v. refl) (lone_word (codes "FALSE") refl)

variable_reads : {n D : ℕ} → PrimReads n D (λ d. words.name ⇒ (λ n v. At n (tree.Var v.name)))
unfolding parts_of unnumbered_expr
variable_reads = made (λ m (v : Named). At m (tree.Var v.name)) (λ x (v : Expr). (parts_of x v).pieces) unnumbered_expr (λ (v : Named). At 0 (tree.Var v.name)) (λ x m v. refl) (λ m v. refl) a_name

node_reads : {n D : ℕ} → InsideFine n D → PrimReads n D (λ d. indexed (codes "nodes") tree.NodeAt (within d))
unfolding parts_of unnumbered_expr
node_reads inside =
    made (λ m (v : Named × Expr). At m (tree.NodeAt v.0.name v.1)) (λ x (v : Expr). (parts_of x v).pieces) unnumbered_expr (λ (v : Named × Expr). At 0 (tree.NodeAt v.0.name v.1)) (λ x m v. refl) (λ m v. refl)
    (both (past (lone_word (codes "nodes") refl) (parenthesized_reads a_name)) (before (past (lone_mark mark.OpenBracket) (inside_reads inside)) (lone_mark mark.CloseBracket)))

edge_reads : {n D : ℕ} → InsideFine n D → PrimReads n D (λ d. indexed (codes "edges") tree.EdgeAt (within d))
unfolding parts_of unnumbered_expr
edge_reads inside =
    made (λ m (v : Named × Expr). At m (tree.EdgeAt v.0.name v.1)) (λ x (v : Expr). (parts_of x v).pieces) unnumbered_expr (λ (v : Named × Expr). At 0 (tree.EdgeAt v.0.name v.1)) (λ x m v. refl) (λ m v. refl)
    (both (past (lone_word (codes "edges") refl) (parenthesized_reads a_name)) (before (past (lone_mark mark.OpenBracket) (inside_reads inside)) (lone_mark mark.CloseBracket)))

length_reads : {n D : ℕ} → PrimReads n D (λ d. (words.the_word (codes "length") ▸ in_parentheses words.name) ⇒ (λ n v. At n (tree.Length v.name)))
unfolding parts_of unnumbered_expr
length_reads =
    made (λ m (v : Named). At m (tree.Length v.name)) (λ x (v : Expr). (parts_of x v).pieces) unnumbered_expr (λ (v : Named). At 0 (tree.Length v.name)) (λ x m v. refl) (λ m v. refl)
    (past (lone_word (codes "length") refl) (parenthesized_reads a_name))

rows_reads : {n D : ℕ} → PrimReads n D (λ d. (words.the_word (codes "COUNT") ▸ in_parentheses (words.mark mark.Star)) ⇒ (λ n v. At n (tree.Aggregate fold.Rows (maybe None))))
unfolding parts_of unnumbered_expr
rows_reads =
    made (λ m v. At m (tree.Aggregate fold.Rows (maybe None))) (λ x (v : Expr). (parts_of x v).pieces) unnumbered_expr (λ v. At 0 (tree.Aggregate fold.Rows (maybe None))) (λ x m v. refl) (λ m v. refl)
    (past (lone_word (codes "COUNT") refl) (parenthesized_reads (lone_mark mark.Star)))

folding_reads : {n D : ℕ} → Reads n D (λ d. folding) (λ x f. word (fold_word f) ∷ []) (λ f. f)
folding_reads =
    either (made (λ m u. fold.Count) (λ x f. word (fold_word f) ∷ []) (λ f. f) (λ u. fold.Count) (λ x m u. refl) (λ m u. refl) (lone_word (codes "COUNT") refl))
    (either (made (λ m u. fold.Sum) (λ x f. word (fold_word f) ∷ []) (λ f. f) (λ u. fold.Sum) (λ x m u. refl) (λ m u. refl) (lone_word (codes "SUM") refl))
    (either (made (λ m u. fold.Min) (λ x f. word (fold_word f) ∷ []) (λ f. f) (λ u. fold.Min) (λ x m u. refl) (λ m u. refl) (lone_word (codes "MIN") refl))
    (either (made (λ m u. fold.Max) (λ x f. word (fold_word f) ∷ []) (λ f. f) (λ u. fold.Max) (λ x m u. refl) (λ m u. refl) (lone_word (codes "MAX") refl))
    (made (λ m u. fold.Collect) (λ x f. word (fold_word f) ∷ []) (λ f. f) (λ u. fold.Collect) (λ x m u. refl) (λ m u. refl) (lone_word (codes "COLLECT") refl)))))

aggregate_reads : {n D : ℕ} → InsideFine n D → PrimReads n D (λ d. (folding ⋅ in_parentheses (within d).expr) ⇒ (λ n v. At n (tree.Aggregate v.0 (maybe (Some v.1)))))
unfolding parts_of unnumbered_expr
aggregate_reads inside =
    made (λ m (v : Fold × Expr). At m (tree.Aggregate v.0 (maybe (Some v.1)))) (λ x (v : Expr). (parts_of x v).pieces) unnumbered_expr (λ (v : Fold × Expr). At 0 (tree.Aggregate v.0 (maybe (Some v.1)))) (λ x m v. refl) (λ m v. refl)
    (both folding_reads (parenthesized_reads (inside_reads inside)))

-- ---- EXISTS

length_map : {X Y : Type 0} (f : X → Y) (xs : List X) → length (map f xs) ≡ length xs
length_map f [] = refl
length_map f (x ∷ xs) = ap suc (length_map f xs)

map_append : {X Y : Type 0} (f : X → Y) (xs ys : List X) → map f (xs ++ ys) ≡ map f xs ++ map f ys
map_append f [] ys = refl
map_append f (x ∷ xs) ys = ap (λ zs. f x ∷ zs) (map_append f xs ys)

get_last : (xs : List (Tree AQuery)) (query : Tree AQuery) → slice_get (xs ++ query ∷ []) (length xs) ≡ Some query
get_last [] query = refl
get_last (x ∷ xs) query = get_last xs query

enclosed_tokens : (n : ℕ) (ps : List Piece) → tokens_in (enclosed n ps) ≡ Symbol mark.OpenParenthesis ∷ (tokens_in ps ++ Symbol mark.CloseParenthesis ∷ [])
enclosed_tokens n ps =
    ap (λ ts. Symbol mark.OpenParenthesis ∷ ts)
    (tokens_append (ps ++ Line n ∷ []) (mark_piece mark.CloseParenthesis ∷ [])
    ∙ ap (λ ts. ts ++ Symbol mark.CloseParenthesis ∷ []) (tokens_append ps (Line n ∷ []) ∙ append-nil (tokens_in ps)))

enclosed_sound : (n : ℕ) (ps : List Piece) → AreSound ps → AreSound (enclosed n ps)
enclosed_sound n ps sound =
    (tt, (tt, sound_append (ps ++ Line n ∷ []) (mark_piece mark.CloseParenthesis ∷ []) (sound_append ps (Line n ∷ []) sound (tt, tt)) (tt, tt)))

-- the query of an EXISTS, spelled anew behind the same queries
asked_again : (n : ℕ) (Q : Lang (Tree AQuery)) (x : List (List Piece)) (query : Tree AQuery) (r p q last : Point) (i : ℕ) → slice_index_or x i [] ≡ enclosed n (pieces_of (n + 1) query)
    → Again Q unnumbered (pieces_of (n + 1) query) (unnumbered query) (record { token = (next r).token; exists = [] }) last
    → SameExists r p → i ≡ length p.exists → q.exists ≡ p.exists ++ query ∷ [] → Again (in_parentheses (numbered Q)) (λ j. j) (slice_index_or x i []) i r q
asked_again n Q x query r p q last i found again same number_is at_end =
    let end : Point = record { token = again.end.token; exists = r.exists ++ again.value ∷ [] } in
    record {
      value = length r.exists;
      end = next end;
      spelled =
          subst (λ ts. in_parentheses (numbered Q) r ts (length r.exists) (next end)) (sym (ap tokens_in found ∙ enclosed_tokens n (pieces_of (n + 1) query)))
          (spells_inside (numbered Q) r end (tokens_in (pieces_of (n + 1) query)) (length r.exists)
          (record { query = again.value; last = again.end; spelled = again.spelled; number = refl; after = refl }));
      same = sym (length_map unnumbered r.exists) ∙ ap length same ∙ length_map unnumbered p.exists ∙ sym number_is;
      kept =
          map_append unnumbered r.exists (again.value ∷ []) ∙ ap (λ qs. map unnumbered r.exists ++ qs) (ap (λ u. u ∷ []) again.same) ∙ ap (λ qs. qs ++ unnumbered query ∷ []) same
          ∙ sym (map_append unnumbered p.exists (query ∷ [])) ∙ ap (map unnumbered) (sym at_end);
      sound = subst AreSound (sym found) (enclosed_sound n (pieces_of (n + 1) query) again.sound);
    }

-- the query of an EXISTS, whose pieces are those of its number
asked_reads : {n D : ℕ} → InsideFine n D → Reads n D (λ d. in_parentheses (numbered (within d).query)) (λ x i. slice_index_or x i []) (λ i. i)
asked_reads {n = n} {D = D} inside = record {
  read = λ p q ts i w s.
      let outer = s.spelled in
      let w1 = front_writable outer.early outer.late (subst AreWritable outer.whole w) in
      let opened = outer.before.spelled in
      let asked = opened.behind in
      let w2 = back_writable opened.early opened.late (subst AreWritable opened.whole w1) in
      let own = inside.query.read (record { token = opened.between.token; exists = [] }) asked.last opened.late asked.query w2 asked.spelled in
      let at_front : opened.between.exists ≡ p.exists = ap (λ (t : Point). t.exists) opened.before.after in
      let at_end : q.exists ≡ p.exists ++ asked.query ∷ [] =
      ap (λ (t : Point). t.exists) outer.behind.after ∙ ap (λ (t : Point). t.exists) asked.after ∙ ap (λ qs. qs ++ asked.query ∷ []) at_front in
      let number_is : i ≡ length p.exists = s.made ∙ outer.before.made ∙ asked.number ∙ ap length at_front in
      let lists = map (λ query. enclosed (n + 1) (pieces_of (n + 1 + 1) query)) asked.last.exists in
      record {
        grows = record { new = asked.query ∷ []; is = at_end };
        again = λ d deep x listed r same.
            asked_again n ((within d).query) x asked.query r p q asked.last i
            (listed.at i asked.query (ap (λ qs. slice_get qs i) at_end ∙ ap (λ j. slice_get (p.exists ++ asked.query ∷ []) j) number_is ∙ get_last p.exists asked.query))
            (own.again d deep lists (listed_own (n + 1) asked.last.exists lists refl) (record { token = (next r).token; exists = [] }) refl)
            same number_is at_end;
      };
}

exists_reads : {n D : ℕ} → InsideFine n D → PrimReads n D (λ d. (words.the_word (codes "EXISTS") ▸ in_parentheses (numbered (within d).query)) ⇒ (λ n i. At n (tree.Exists i)))
unfolding parts_of unnumbered_expr
exists_reads inside =
    made (λ m i. At m (tree.Exists i)) (λ x (v : Expr). (parts_of x v).pieces) unnumbered_expr (λ i. At 0 (tree.Exists i)) (λ x m v. refl) (λ m v. refl)
    (past (word_blank (codes "EXISTS") refl) (asked_reads inside))

-- ---- prim

-- a primary other than one in parentheses
primary : {n D : ℕ} {L : ℕ → Lang Expr} {p q : Point} {ts : List Token} {v : Expr} → ((d : ℕ) (r s : Point) (us : List Token) (e : Expr) → L d r us e s → prim (within d) r us e s)
    → PrimReads n D L → AreWritable ts → L D p ts v q → ((x : List (List Piece)) → (parts_of x v).rank ≡ 0) → FineRead n D 0 p q v
primary {p = p} {q = q} {ts = ts} {v = v} turn reads w s rank =
    fresh rank (converted (λ d. prim (within d)) (λ x (v : Expr). (parts_of x v).pieces) unnumbered_expr (λ m a. a) (λ b. b) v turn (λ m b. refl) refl (λ x. refl) (reads.read p q ts v w s))

ranks : (x : List (List Piece)) (v : Expr) → (parts_of x v).rank ≤ 8
unfolding parts_of
ranks x (At m (tree.Number n)) = omega arith
ranks x (At m (tree.Text t)) = omega arith
ranks x (At m (tree.Truth b)) = omega arith
ranks x (At m (tree.Var a)) = omega arith
ranks x (At m (tree.Property e k)) = omega arith
ranks x (At m (tree.Labelled e l)) = omega arith
ranks x (At m (tree.NodeAt a i)) = omega arith
ranks x (At m (tree.EdgeAt a i)) = omega arith
ranks x (At m (tree.Length a)) = omega arith
ranks x (At m (tree.Aggregate f e)) = omega arith
ranks x (At m (tree.Negate e)) = omega arith
ranks x (At m (tree.Sum e parts)) = omega arith
ranks x (At m (tree.Product e parts)) = omega arith
ranks x (At m (tree.Compare how a b)) = omega arith
ranks x (At m (tree.Not e)) = omega arith
ranks x (At m (tree.And parts)) = omega arith
ranks x (At m (tree.Or parts)) = omega arith
ranks x (At m (tree.Exists i)) = omega arith

-- in parentheses, where it is looser than a primary
group_placed : {n D : ℕ} {p q : Point} {v : Expr} → InsideRead n D p q v → (d : ℕ) → D ≤ d → (x : List (List Piece)) → Listed n q.exists x → (r : Point) → SameExists r p
    → Compared 0 (parts_of x v).rank → Again (prim (within d)) unnumbered_expr (closed 0 (parts_of x v)) (unnumbered_expr v) r q
group_placed {q = q} {v = v} inside d deep x listed r same (Within low) =
    turned (prim (within d)) (closed 0 (parts_of x v)) (sym (closed_within 0 (parts_of x v) low))
    (λ ts e end s. loosened_to (parts_of x v).rank 0 low (within d) r end ts e s) (inside.bare d deep x listed r same)
group_placed {q = q} {v = v} inside d deep x listed r same (Over high) =
    let again = inside.whole d deep x listed (next r) same in
    let ps = (parts_of x v).pieces in
    let tokens : Symbol mark.OpenParenthesis ∷ (tokens_in ps ++ Symbol mark.CloseParenthesis ∷ []) ≡ tokens_in (closed 0 (parts_of x v)) =
    ap (λ ts. Symbol mark.OpenParenthesis ∷ ts) (sym (tokens_append ps (mark_piece mark.CloseParenthesis ∷ []))) ∙ ap tokens_in (sym (closed_over 0 (parts_of x v) high)) in
    record {
      value = again.value;
      end = next again.end;
      spelled = subst (λ ts. prim (within d) r ts again.value (next again.end)) tokens
          (that (that (that (that (that (this (spells_inside ((within d).expr) r again.end (tokens_in ps) again.value again.spelled)))))));
      same = again.same;
      kept = again.kept;
      sound = subst AreSound (sym (closed_over 0 (parts_of x v) high)) (tt, sound_append ps (mark_piece mark.CloseParenthesis ∷ []) again.sound (tt, tt));
    }

-- an expression in parentheses is that expression
group_fine : {n D : ℕ} → InsideFine n D → (p q : Point) (ts : List Token) (v : Expr) → AreWritable ts → in_parentheses (within D).expr p ts v q → FineRead n D 0 p q v
group_fine {n = n} {D = D} inside p q ts v w s =
    let outer = s.spelled in
    let w1 = front_writable outer.early outer.late (subst AreWritable outer.whole w) in
    let opened = outer.before.spelled in
    let w2 = back_writable opened.early opened.late (subst AreWritable opened.whole w1) in
    let own = inside.expr opened.between outer.between opened.late outer.before.value.1 w2 opened.behind in
    let moved : InsideRead n D (next p) outer.between v =
    subst (λ t. InsideRead n D t outer.between v) opened.before.after (subst (λ e. InsideRead n D opened.between outer.between e) (sym (s.made ∙ outer.before.made)) own) in
    subst (λ t. FineRead n D 0 p t v) (sym outer.behind.after)
    (record {
      grows = moved.grows;
      bare = λ d deep x listed r same. let a = moved.bare d deep x listed r same in record { value = a.value; end = a.end; spelled = a.spelled; same = a.same; kept = a.kept; sound = a.sound };
      placed = λ d deep x listed r same.
          let a = group_placed moved d deep x listed r same (compare 0 (parts_of x v).rank) in
          record { value = a.value; end = a.end; spelled = a.spelled; same = a.same; kept = a.kept; sound = a.sound };
    })

prim_by : {n D : ℕ} → InsideFine n D → (p q : Point) (ts : List Token) (v : Expr) → AreWritable ts → prim (within D) p ts v q → FineRead n D 0 p q v
unfolding parts_of
prim_by inside p q ts v w (this s) = primary (λ d r end us e l. this l) number_reads w s (λ x. ap (λ (e : Expr). (parts_of x e).rank) s.made)
prim_by inside p q ts v w (that (this s)) = primary (λ d r end us e l. that (this l)) text_reads w s (λ x. ap (λ (e : Expr). (parts_of x e).rank) s.made)
prim_by inside p q ts v w (that (that (this s))) = primary (λ d r end us e l. that (that (this l))) true_reads w s (λ x. ap (λ (e : Expr). (parts_of x e).rank) s.made)
prim_by inside p q ts v w (that (that (that (this s)))) = primary (λ d r end us e l. that (that (that (this l)))) false_reads w s (λ x. ap (λ (e : Expr). (parts_of x e).rank) s.made)
prim_by inside p q ts v w (that (that (that (that (this s))))) =
    primary (λ d r end us e l. that (that (that (that (this l))))) variable_reads w s (λ x. ap (λ (e : Expr). (parts_of x e).rank) s.made)
prim_by inside p q ts v w (that (that (that (that (that (this s)))))) = group_fine inside p q ts v w s
prim_by inside p q ts v w (that (that (that (that (that (that (this s))))))) =
    primary (λ d r end us e l. that (that (that (that (that (that (this l))))))) (exists_reads inside) w s (λ x. ap (λ (e : Expr). (parts_of x e).rank) s.made)
prim_by inside p q ts v w (that (that (that (that (that (that (that (this s)))))))) =
    primary (λ d r end us e l. that (that (that (that (that (that (that (this l)))))))) (node_reads inside) w s (λ x. ap (λ (e : Expr). (parts_of x e).rank) s.made)
prim_by inside p q ts v w (that (that (that (that (that (that (that (that (this s))))))))) =
    primary (λ d r end us e l. that (that (that (that (that (that (that (that (this l))))))))) (edge_reads inside) w s (λ x. ap (λ (e : Expr). (parts_of x e).rank) s.made)
prim_by inside p q ts v w (that (that (that (that (that (that (that (that (that (this s)))))))))) =
    primary (λ d r end us e l. that (that (that (that (that (that (that (that (that (this l)))))))))) length_reads w s (λ x. ap (λ (e : Expr). (parts_of x e).rank) s.made)
prim_by inside p q ts v w (that (that (that (that (that (that (that (that (that (that (this s))))))))))) =
    primary (λ d r end us e l. that (that (that (that (that (that (that (that (that (that (this l))))))))))) rows_reads w s (λ x. ap (λ (e : Expr). (parts_of x e).rank) s.made)
prim_by inside p q ts v w (that (that (that (that (that (that (that (that (that (that (that s))))))))))) =
    primary (λ d r end us e l. that (that (that (that (that (that (that (that (that (that (that l))))))))))) (aggregate_reads inside) w s (λ x. ap (λ (e : Expr). (parts_of x e).rank) s.made)

prim_fine : {n D : ℕ} → InsideFine n D → Fine n D 0
prim_fine inside = record { read = prim_by inside }

-- ---- expressions

expressions_fine : {n D : ℕ} → InsideFine n D → Fine n D 8
expressions_fine inside =
    expr_fine (and_fine (not_fine (cmp_fine (sum_fine (prod_fine (neg_fine (post_fine (prim_fine inside))))))))

pub expressions_read : {n D : ℕ} → InsideFine n D → Reads n D (λ d. level 8 (within d)) (λ x (v : Expr). (parts_of x v).pieces) unnumbered_expr
expressions_read inside = rewritten (λ x (v : Expr). (parts_of x v).pieces) (λ x v. sym (closed_within 8 (parts_of x v) (ranks x v))) (operand 8 (expressions_fine inside))

-- nothing is in brackets that are not there
pub inside_none : {n : ℕ} → Reads (n + 1) 0 (λ d. (within d).query) (λ x v. pieces_of (n + 1) v) unnumbered → InsideFine n 0
inside_none queries = record { expr = λ p q ts v w s. absurd s; query = queries }

-- what is in brackets, one deeper
pub inside_deeper : {n D : ℕ} → InsideFine n D → Reads (n + 1) (suc D) (λ d. (within d).query) (λ x v. pieces_of (n + 1) v) unnumbered → InsideFine n (suc D)
inside_deeper {n = n} {D = D} inside queries = record {
  expr = λ p q ts v w s.
      let fine = (expressions_fine inside).read p q ts v w s in
      let whole = (deeper (λ d. (within d).expr) (expressions_read inside)).read p q ts v w s in
      record { grows = fine.grows; bare = λ d deep. fine.bare d (omega (arith, deep)); whole = whole.again };
  query = queries;
}
