-- Patterns, spelled anew.
use Rattle.std.proofs.Common.{◌≡◌, ℕ, true, List, [], ◌∷◌, ◌++◌, map, Option, Some, None, refl, sym, ap, subst, ◌∙◌, append_assoc, codes}
use Rattle.std.specs.List.{flat_map}
use Rattle.std.specs.Option.{option_map}
use Rattle.std.proofs.lemmas.List.{append-nil}
use Rattle.gc_base.specs.Words.{is_word}
use Rattle.gc_base.specs.declared.place.Direction.{Direction}
use Rattle.gc_base.specs.declared.place.Direction.TheVariants.{Backward}
use Rattle.gc_lex.specs.declared.token.Token.{Token}
use Rattle.gc_lex.specs.declared.token.Token.TheVariants.{Word, Number, Text, Symbol}
use Rattle.gc_lex.specs.declared.token.Mark.TheVariants as mark
use Rattle.gc_regx.specs.Expressions.{IsExpression}
use Rattle.gc_ast.specs.declared.pattern.CountAt.{CountAt}
use Rattle.gc_ast.specs.Trees as tree
use Rattle.gc_ast.specs.Trees.{Kind, RowOf, Tree, AnElement, APropertyUse, APattern, APathBody, ALocated, Named, row, rows, maybe}
use Rattle.gc_grammar.specs.Words as words
use Rattle.gc_grammar.specs.Words.{Point, Lang, next, this, that, ◌⋅◌, ◌∣◌, ◌⇒◌, ◌▸◌, ◌◂◌, optional, many, separated}
use Rattle.gc_grammar.specs.Regexes.{Expression, regex}
use Rattle.gc_grammar.specs.Patterns as pattern
use Rattle.gc_grammar.specs.Patterns.{Unplaced, placed, listed, arrow, edge_of, angled, in_turn, linked}
use Rattle.gc_grammar.specs.Queries.{start}
use Rattle.gc_grammar.proofs.Spellings.{spells_mark}
use Rattle.gc_print.specs.RegexTokens.{tokens_of}
use Rattle.gc_print.specs.WrittenTokens.{AreWritten}
use Rattle.gc_print.proofs.GrammarGives.{regex_gives}
use Rattle.gc_print.proofs.SpelledExpressions.{tokens_spell}
use Rattle.gc_print_query.specs.Pieces.{Piece, Blank, Lexeme, Angled, joined}
use Rattle.gc_print_query.specs.ExpressionPieces.{word, mark_piece, parenthesized}
use Rattle.gc_print_query.specs.QueryPieces.{pieces_of, PiecesOf, name_if, label_group, braced, edge, path, count_if, named_if}
use Rattle.gc_print_query.specs.Tokens.{AreWritable}
use Rattle.gc_print_query.specs.Unnumbered.{unnumbered, unnumbered_name, unnumbered_count}
use Rattle.gc_print_query.proofs.Rereading.{Grows, grows_none, Read, Reads, converted, made, rewritten, restated, both, past, before, either, at_most_once, if_some, any_times, with_separators, nothing_read, a_word, a_name, a_number, front_writable, back_writable}
use Rattle.gc_print_query.proofs.TokensRead.{lone_mark, spaced_mark, mark_blank, blank_mark, word_blank, spaced_word}
use Rattle.gc_print_query.proofs.Primaries.{parenthesized_reads}
use Rattle.gc_print_query.proofs.Relocated.{Moved, regex_moves, regex_shows, unnumbered_regex, views_in}

-- ---- rows

pub row_pieces : {k : Kind} (n : ℕ) (ts : List (Tree k)) → pieces_of n (row ts) ≡ map (pieces_of n) ts
unfolding pieces_of
row_pieces n [] = refl
row_pieces n (t ∷ ts) = ap (λ ps. pieces_of n t ∷ ps) (row_pieces n ts)

pub row_unnumbered : {k : Kind} (ts : List (Tree k)) → unnumbered (row ts) ≡ row (map unnumbered ts)
unfolding unnumbered
row_unnumbered [] = refl
row_unnumbered (t ∷ ts) = ap (λ r. tree.more (unnumbered t) r) (row_unnumbered ts)

map_id : {X : Type 0} (xs : List X) → xs ≡ map (λ x. x) xs
map_id [] = refl
map_id (x ∷ xs) = ap (λ ys. x ∷ ys) (map_id xs)

map_same : {X : Type 0} (f : X → X) → ((x : X) → x ≡ f x) → (xs : List X) → xs ≡ map f xs
map_same f same [] = refl
map_same f same (x ∷ xs) = λ i. same x i ∷ map_same f same xs i

-- ---- what may be absent

name_if_reads : {n D : ℕ} → Reads n D (λ d. optional words.name) (λ x o. name_if o) (option_map unnumbered_name)
name_if_reads = rewritten (λ x o. name_if o) (λ x o. by o) (at_most_once a_name)
  where
    by : (o : Option Named) → name_if o ≡ if_some (λ (v : Named). word v.name ∷ []) o
    by None = refl
    by (Some v) = refl

pub named_if_reads : {n D : ℕ} (w : List ℕ) → is_word w ≡ true → Reads n D (λ d. optional (words.the_word w ▸ words.name)) (λ x o. named_if w o) (option_map unnumbered_name)
named_if_reads w is = rewritten (λ x o. named_if w o) (λ x o. by o) (at_most_once (past (spaced_word w is) a_name))
  where
    by : (o : Option Named) → named_if w o ≡ if_some (λ (v : Named). Blank ∷ word w ∷ Blank ∷ word v.name ∷ []) o
    by None = refl
    by (Some v) = refl

-- lists in braces
pub braced_reads : {A B : Type 0} {n D : ℕ} {L : ℕ → Lang A} {f : List (List Piece) → A → List Piece} {e : A → B}
    → Reads n D L f e → Reads n D (λ d. optional (words.mark mark.OpenBrace ▸ separated (L d) (words.mark mark.Comma) ◂ words.mark mark.CloseBrace)) (λ x o. braced (map (f x) (listed o))) (λ o. map e (listed o))
braced_reads {A = A} {n = n} {D = D} {L = L} {f = f} {e = e} reads = record { read = by }
  where
    LB : ℕ → Lang (List A)
    LB d = words.mark mark.OpenBrace ▸ separated (L d) (words.mark mark.Comma) ◂ words.mark mark.CloseBrace

    in_braces : (x : List (List Piece)) (vs ws : List A) (v : A) → vs ≡ v ∷ ws → braced (map (f x) vs) ≡ Blank ∷ mark_piece mark.OpenBrace ∷ (joined (mark_piece mark.Comma ∷ Blank ∷ []) (map (f x) vs) ++ mark_piece mark.CloseBrace ∷ [])
    in_braces x [] ws v is = absurd (cc)
    in_braces x (u ∷ us) ws v is = refl

    by : (p q : Point) (ts : List Token) (o : Option (List A)) → AreWritable ts
        → optional (words.mark mark.OpenBrace ▸ separated (L D) (words.mark mark.Comma) ◂ words.mark mark.CloseBrace) p ts o q
        → Read n D (λ d. optional (words.mark mark.OpenBrace ▸ separated (L d) (words.mark mark.Comma) ◂ words.mark mark.CloseBrace)) (λ x o. braced (map (f x) (listed o))) (λ o. map e (listed o)) p q o
    by p q ts None w s =
        nothing_read (λ d. optional (words.mark mark.OpenBrace ▸ separated (L d) (words.mark mark.Comma) ◂ words.mark mark.CloseBrace)) (λ x o. braced (map (f x) (listed o))) (λ o. map e (listed o)) p q None s.1 (λ d r. (refl, refl)) (λ x. refl)
    by p q ts (Some vs) w s =
        converted (λ d. optional (words.mark mark.OpenBrace ▸ separated (L d) (words.mark mark.Comma) ◂ words.mark mark.CloseBrace)) (λ x o. braced (map (f x) (listed o))) (λ o. map e (listed o))
        (λ m b. Some b) (λ b. b) (Some vs) (λ d r t us b l. l) (λ m b. refl) refl
        (λ x. in_braces x vs _ _ (s.made ∙ s.spelled.before.made ∙ s.spelled.before.spelled.behind.made))
        ((before (past (blank_mark mark.OpenBrace) (with_separators reads (mark_blank mark.Comma))) (lone_mark mark.CloseBrace)).read p q ts vs w s)

-- ---- elements

labels_reads : {n D : ℕ} → Reads n D (λ d. pattern.labels) (λ x v. label_group v) (λ v. v)
labels_reads = restated (λ v. v) (λ v. v) map_id (past (lone_mark mark.Colon) (with_separators a_word (lone_mark mark.Bar)))

pub all_labels_read : {n D : ℕ} → Reads n D (λ d. many pattern.labels) (λ x v. flat_map label_group v) (λ v. v)
all_labels_read = restated (λ v. v) (λ v. v) map_id (any_times labels_reads)

property_use_reads : {n D : ℕ} → Reads n D (λ d. pattern.property_use) (λ x v. pieces_of n v) unnumbered
unfolding pieces_of unnumbered
property_use_reads {n = n} =
    made (λ m (v : List ℕ × Named). tree.PropertyUse m v.0 v.1) (λ x v. pieces_of n v) unnumbered (λ (v : List ℕ × Named). tree.PropertyUse 0 v.0 v.1) (λ x m v. refl) (λ m v. refl)
    (both a_word (past (spaced_mark mark.Equals) a_name))

-- an element without the numbers
abbrev pub unnumbered_element : Unplaced → Unplaced
unnumbered_element v = record { name = option_map unnumbered_name v.name; labels = v.labels; properties = map unnumbered v.properties }

abbrev pub element_pieces : ℕ → Unplaced → List Piece
element_pieces n v = name_if v.name ++ (flat_map label_group v.labels ++ braced (map (pieces_of n) v.properties))

element_reads : {n D : ℕ} → Reads n D (λ d. pattern.element) (λ x v. element_pieces n v) unnumbered_element
element_reads {n = n} =
    made (λ m (v : Option Named × (List (List (List ℕ)) × Option (List (Tree APropertyUse)))). record { name = v.0; labels = v.1.0; properties = listed v.1.1 })
    (λ x v. element_pieces n v) unnumbered_element
    (λ (v : Option Named × (List (List (List ℕ)) × List (Tree APropertyUse))). record { name = v.0; labels = v.1.0; properties = v.1.1 })
    (λ x m v. refl) (λ m v. refl) (both name_if_reads (both all_labels_read (braced_reads property_use_reads)))

placed_pieces : (n m : ℕ) (v : Unplaced) → pieces_of n (placed m v) ≡ element_pieces n v
unfolding pieces_of
placed_pieces n m v = ap (λ ps. name_if v.name ++ (flat_map label_group v.labels ++ braced ps)) (row_pieces n v.properties)

placed_same : (m : ℕ) (v : Unplaced) → unnumbered (placed m v) ≡ placed 0 (unnumbered_element v)
unfolding unnumbered
placed_same m v = ap (λ r. tree.Element 0 (option_map unnumbered_name v.name) v.labels r) (row_unnumbered v.properties)

node_reads : {n D : ℕ} → Reads n D (λ d. pattern.node) (λ x v. pieces_of n v) unnumbered
unfolding pieces_of unnumbered
node_reads {n = n} =
    made (λ m v. tree.Node (placed m v)) (λ x v. pieces_of n v) unnumbered (λ v. tree.Node (placed 0 v)) (λ x m v. ap parenthesized (placed_pieces n m v)) (λ m v. ap tree.Node (placed_same m v))
    (parenthesized_reads element_reads)

-- ---- edges

edge_pieces : (o : Option (Unit {0})) (ps : List Piece)
    → edge (arrow o) ps ≡ (((mark_piece mark.Minus ∷ mark_piece mark.OpenBracket ∷ ps) ++ mark_piece mark.CloseBracket ∷ []) ++ mark_piece mark.Minus ∷ []) ++ if_some (λ u. mark_piece mark.Greater ∷ []) o
edge_pieces None ps =
    let close = mark_piece mark.CloseBracket ∷ [] in
    let dash = mark_piece mark.Minus ∷ [] in
    ap (λ t. mark_piece mark.Minus ∷ mark_piece mark.OpenBracket ∷ t) (sym (append_assoc ps close dash) ∙ sym (append-nil ((ps ++ close) ++ dash)))
edge_pieces (Some u) ps =
    let close = mark_piece mark.CloseBracket ∷ [] in
    let dash = mark_piece mark.Minus ∷ [] in
    let head = mark_piece mark.Greater ∷ [] in
    ap (λ t. mark_piece mark.Minus ∷ mark_piece mark.OpenBracket ∷ t) (sym (append_assoc ps close (dash ++ head)) ∙ sym (append_assoc (ps ++ close) dash head))

backward_pieces : (ps : List Piece)
    → edge Backward ps ≡ ((mark_piece mark.Less ∷ mark_piece mark.Minus ∷ mark_piece mark.OpenBracket ∷ ps) ++ mark_piece mark.CloseBracket ∷ []) ++ mark_piece mark.Minus ∷ []
backward_pieces ps = simp append_assoc

pub edge_of_reads : {A B : Type 0} {n D : ℕ} {L : ℕ → Lang A} {f : List (List Piece) → A → List Piece} {e : A → B}
    → Reads n D L f e → Reads {B = B × Direction} n D (λ d. edge_of (L d)) (λ x v. edge v.1 (f x v.0)) (λ v. (e v.0, v.1))
edge_of_reads {A = A} {B = B} {f = f} {e = e} reads =
    either
    (made (λ m (v : A × Option (Unit {0})). (v.0, arrow v.1)) (λ x (v : A × Direction). edge v.1 (f x v.0)) (λ (v : A × Direction). (e v.0, v.1)) (λ (v : B × Option (Unit {0})). (v.0, arrow v.1))
    (λ x m v. edge_pieces v.1 (f x v.0)) (λ m v. by (e v.0) v.1)
    (both (before (before (past (lone_mark mark.Minus) (past (lone_mark mark.OpenBracket) reads)) (lone_mark mark.CloseBracket)) (lone_mark mark.Minus)) (at_most_once (lone_mark mark.Greater))))
    (made (λ m (v : A). (v, Backward)) (λ x (v : A × Direction). edge v.1 (f x v.0)) (λ (v : A × Direction). (e v.0, v.1)) (λ (v : B). (v, Backward))
    (λ x m v. backward_pieces (f x v)) (λ m v. refl)
    (before (before (past (lone_mark mark.Less) (past (lone_mark mark.Minus) (past (lone_mark mark.OpenBracket) reads))) (lone_mark mark.CloseBracket)) (lone_mark mark.Minus)))
  where
    by : (b : B) (o : Option (Unit {0})) → ◌≡◌ {A = B × Direction} (b, arrow o) (b, arrow (option_map (λ u. u) o))
    by b None = refl
    by b (Some u) = refl

edge_reads : {n D : ℕ} → Reads n D (λ d. pattern.edge) (λ x v. pieces_of n v) unnumbered
unfolding pieces_of unnumbered
edge_reads {n = n} =
    made (λ m (v : Unplaced × Direction). tree.Edge v.1 (placed m v.0)) (λ x v. pieces_of n v) unnumbered (λ (v : Unplaced × Direction). tree.Edge v.1 (placed 0 v.0))
    (λ x m v. ap (edge v.1) (placed_pieces n m v.0)) (λ m v. ap (tree.Edge v.1) (placed_same m v.0)) (edge_of_reads element_reads)

-- ---- regular path expressions

words_written : (ts : List Token) → AreWritable ts → AreWritten ts
unfolding AreWritable
words_written [] w = tt
words_written (Word a ∷ ts) w = (w.0, words_written ts w.1)
words_written (Number a ∷ ts) w = (tt, words_written ts w.1)
words_written (Text a ∷ ts) w = (tt, words_written ts w.1)
words_written (Symbol a ∷ ts) w = (tt, words_written ts w.1)

is_expression : (p q : Point) (ts : List Token) (e : Expression) → AreWritable ts → regex p ts e q → IsExpression e.tree
is_expression p q ts e w s =
    let moved = regex_moves.move p q start ts e s in
    regex_gives ts e.tree (words_written ts w) (moved.end, moved.value, moved.spelled, ap (λ (e : Expression). e.tree) moved.same)

-- the tokens of the tree spell it anywhere, with the same views
regex_again : (p q r : Point) (ts : List Token) (e : Expression) → AreWritable ts → regex p ts e q → Moved regex unnumbered_regex (tokens_of e.tree) e p q r
regex_again p q r ts e w s =
    let own = tokens_spell e.tree (is_expression p q ts e w s) in
    let moved = regex_moves.move start own.0 r (tokens_of e.tree) own.1 own.2 in
    let tree_is : moved.value.tree ≡ e.tree = ap (λ (f : Expression). f.tree) moved.same ∙ own.3 in
    let views_are : map unnumbered_name moved.value.views ≡ map unnumbered_name e.views =
    regex_shows r moved.end (tokens_of e.tree) moved.value moved.spelled ∙ ap views_in tree_is ∙ sym (regex_shows p q ts e s) in
    record {
      value = moved.value;
      end = moved.end;
      spelled = moved.spelled;
      same = λ i. record { tree = tree_is i; views = views_are i };
      kept = (regex_moves.move p q start ts e s).kept;
      kept_there = moved.kept_there;
    }

angled_reads : {n D : ℕ} → Reads n D (λ d. angled) (λ x (v : ℕ × Expression). Angled v.1.tree ∷ []) (λ (v : ℕ × Expression). unnumbered_regex v.1)
angled_reads = record {
  read = λ p q ts v w s.
      let outer = s.spelled.spelled in
      let opened = outer.before.spelled in
      let w2 = back_writable opened.early opened.late (subst AreWritable opened.whole (front_writable outer.early outer.late (subst AreWritable outer.whole w))) in
      let e = outer.before.value.1 in
      let value_is : v.1 ≡ e = ap (λ (u : ℕ × Expression). u.1) s.made ∙ s.spelled.made ∙ outer.before.made in
      let inner = opened.behind in
      let end_is : q.exists ≡ p.exists =
      ap (λ (t : Point). t.exists) outer.behind.after ∙ (regex_again opened.between outer.between start opened.late e w2 inner).kept ∙ ap (λ (t : Point). t.exists) opened.before.after in
      record {
        grows = subst (Grows p.exists) (sym end_is) (grows_none p.exists);
        again = λ d deep x listed r same.
            let again = regex_again opened.between outer.between (next r) opened.late e w2 inner in
            record {
              value = (r.token, again.value);
              end = next again.end;
              spelled = subst (λ (f : Expression). angled r (Symbol mark.Less ∷ (tokens_of f.tree ++ Symbol mark.Greater ∷ [])) (r.token, again.value) (next again.end)) (sym value_is)
                  (record {
                    value = again.value;
                    spelled = record {
                      value = (again.value, tt);
                      spelled = record {
                        early = Symbol mark.Less ∷ tokens_of e.tree;
                        late = Symbol mark.Greater ∷ [];
                        between = again.end;
                        whole = refl;
                        before = record {
                          value = (tt, again.value);
                          spelled = record { early = Symbol mark.Less ∷ []; late = tokens_of e.tree; between = next r; whole = refl; before = spells_mark mark.Less r; behind = again.spelled };
                          made = refl;
                        };
                        behind = spells_mark mark.Greater again.end;
                      };
                      made = refl;
                    };
                    made = refl;
                  });
              same = again.same ∙ ap unnumbered_regex (sym value_is);
              kept = ap (map unnumbered) again.kept_there ∙ same ∙ ap (map unnumbered) (sym end_is);
              sound = (subst (λ (f : Expression). IsExpression f.tree) (sym value_is) (is_expression opened.between outer.between opened.late e w2 inner), tt);
            };
      };
}

-- ---- paths

abbrev BodyReads : (n D : ℕ) → Lang (ℕ × Tree APathBody) → Type 0
BodyReads n D L = Reads n D (λ d. L) (λ x (v : ℕ × Tree APathBody). pieces_of n v.1) (λ (v : ℕ × Tree APathBody). unnumbered v.1)

reach_reads : {n D : ℕ} → BodyReads n D pattern.reach
unfolding pieces_of unnumbered
reach_reads {n = n} =
    made (λ m (v : ℕ × Expression). (v.0, tree.Reach v.1.tree v.1.views)) (λ x (v : ℕ × Tree APathBody). pieces_of n v.1) (λ (v : ℕ × Tree APathBody). unnumbered v.1)
    (λ (e : Expression). tree.Reach e.tree e.views) (λ x m v. refl) (λ m v. refl) angled_reads

count_reads : {n D : ℕ} → Reads n D (λ d. pattern.count) (λ x (k : CountAt). Lexeme (Number k.count) ∷ Blank ∷ word (codes "SHORTEST") ∷ Blank ∷ []) unnumbered_count
count_reads =
    made (λ m v. record { count = v; token = m }) (λ x (k : CountAt). Lexeme (Number k.count) ∷ Blank ∷ word (codes "SHORTEST") ∷ Blank ∷ []) unnumbered_count (λ v. record { count = v; token = 0 })
    (λ x m v. refl) (λ m v. refl) (before a_number (spaced_word (codes "SHORTEST") refl))

count_if_reads : {n D : ℕ} → Reads n D (λ d. optional pattern.count) (λ x o. count_if o) (option_map unnumbered_count)
count_if_reads = rewritten (λ x o. count_if o) (λ x o. by o) (at_most_once count_reads)
  where
    by : (o : Option CountAt) → count_if o ≡ if_some (λ (k : CountAt). Lexeme (Number k.count) ∷ Blank ∷ word (codes "SHORTEST") ∷ Blank ∷ []) o
    by None = refl
    by (Some k) = refl

found_reads : {n D : ℕ} → BodyReads n D pattern.found
unfolding pieces_of unnumbered
found_reads {n = n} =
    made (λ m (v : Option CountAt × (Named × ((ℕ × Expression) × Option Named))). (v.1.1.0.0, tree.Found v.0 v.1.0 v.1.1.0.1.tree v.1.1.0.1.views v.1.1.1))
    (λ x (v : ℕ × Tree APathBody). pieces_of n v.1) (λ (v : ℕ × Tree APathBody). unnumbered v.1)
    (λ (v : Option CountAt × (Named × (Expression × Option Named))). tree.Found v.0 v.1.0 v.1.1.0.tree v.1.1.0.views v.1.1.1) (λ x m v. refl) (λ m v. refl)
    (both count_if_reads (both a_name (both angled_reads (named_if_reads (codes "COST") refl))))

all_reads : {n D : ℕ} → BodyReads n D pattern.all
unfolding pieces_of unnumbered
all_reads {n = n} =
    made (λ m (v : Named × (ℕ × Expression)). (v.1.0, tree.All v.0 v.1.1.tree v.1.1.views)) (λ x (v : ℕ × Tree APathBody). pieces_of n v.1) (λ (v : ℕ × Tree APathBody). unnumbered v.1)
    (λ (v : Named × Expression). tree.All v.0 v.1.tree v.1.views) (λ x m v. refl) (λ m v. refl) (both (past (word_blank (codes "ALL") refl) a_name) angled_reads)

stored_reads : {n D : ℕ} → BodyReads n D pattern.stored
unfolding pieces_of unnumbered
stored_reads {n = n} =
    made (λ m (v : Named × List (List (List ℕ))). (m, tree.Stored v.0 v.1)) (λ x (v : ℕ × Tree APathBody). pieces_of n v.1) (λ (v : ℕ × Tree APathBody). unnumbered v.1)
    (λ (v : Named × List (List (List ℕ))). tree.Stored v.0 v.1) (λ x m v. refl) (λ m v. refl) (both (past (lone_mark mark.AtSign) a_name) all_labels_read)

pathbody_reads : {n D : ℕ} → BodyReads n D pattern.pathbody
pathbody_reads = either reach_reads (either found_reads (either all_reads stored_reads))

path_pieces : (ps : List Piece)
    → path ps ≡ (((mark_piece mark.Minus ∷ mark_piece mark.Slash ∷ ps) ++ mark_piece mark.Slash ∷ []) ++ mark_piece mark.Minus ∷ []) ++ mark_piece mark.Greater ∷ []
path_pieces ps = simp append_assoc

pub in_slashes_read : {A B : Type 0} {n D : ℕ} {L : ℕ → Lang A} {f : List (List Piece) → A → List Piece} {e : A → B}
    → Reads n D L f e → Reads n D (λ d. words.mark mark.Minus ▸ words.mark mark.Slash ▸ L d ◂ words.mark mark.Slash ◂ words.mark mark.Minus ◂ words.mark mark.Greater) (λ x v. path (f x v)) e
in_slashes_read {f = f} reads =
    rewritten (λ x v. path (f x v)) (λ x v. path_pieces (f x v))
    (before (before (before (past (lone_mark mark.Minus) (past (lone_mark mark.Slash) reads)) (lone_mark mark.Slash)) (lone_mark mark.Minus)) (lone_mark mark.Greater))

path_reads : {n D : ℕ} → Reads n D (λ d. pattern.path) (λ x v. pieces_of n v) unnumbered
unfolding pieces_of unnumbered
path_reads {n = n} =
    made (λ m (v : ℕ × Tree APathBody). tree.Path m v.0 v.1) (λ x v. pieces_of n v) unnumbered (λ v. tree.Path 0 0 v) (λ x m v. refl) (λ m v. refl) (in_slashes_read pathbody_reads)

-- ---- chains

in_turn_pieces : {A : Type 0} (f : A → List Piece) (pairs : List (A × A)) → flat_map f (in_turn pairs) ≡ flat_map (λ (pair : A × A). f pair.0 ++ f pair.1) pairs
in_turn_pieces f [] = refl
in_turn_pieces f (pair ∷ pairs) = ap (λ ps. f pair.0 ++ (f pair.1 ++ ps)) (in_turn_pieces f pairs) ∙ sym (append_assoc (f pair.0) (f pair.1) (flat_map (λ p. f p.0 ++ f p.1) pairs))

in_turn_map : {A B : Type 0} (e : A → B) (pairs : List (A × A)) → map e (in_turn pairs) ≡ in_turn (map (λ (pair : A × A). (e pair.0, e pair.1)) pairs)
in_turn_map e [] = refl
in_turn_map e (pair ∷ pairs) = ap (λ xs. e pair.0 ∷ e pair.1 ∷ xs) (in_turn_map e pairs)

pub linked_read : {A B : Type 0} {n D : ℕ} {N L : ℕ → Lang A} {f : List (List Piece) → A → List Piece} {e : A → B}
    → Reads n D N f e → Reads n D L f e → Reads n D (λ d. linked (N d) (L d)) (λ x vs. flat_map (f x) vs) (map e)
linked_read {A = A} {B = B} {f = f} {e = e} nodes links =
    made (λ m (v : A × List (A × A)). v.0 ∷ in_turn v.1) (λ x vs. flat_map (f x) vs) (map e) (λ (v : B × List (B × B)). v.0 ∷ in_turn v.1)
    (λ x m v. ap (λ ps. f x v.0 ++ ps) (in_turn_pieces (f x) v.1)) (λ m v. ap (λ es. e v.0 ∷ es) (in_turn_map e v.1))
    (both nodes (any_times (both links nodes)))

pub vchain_reads : {n D : ℕ} → Reads n D (λ d. pattern.vchain) (λ x vs. flat_map (pieces_of n) vs) (map unnumbered)
vchain_reads = linked_read node_reads edge_reads

chain_reads : {n D : ℕ} → Reads n D (λ d. pattern.chain) (λ x vs. flat_map (pieces_of n) vs) (map unnumbered)
chain_reads = linked_read node_reads (either edge_reads path_reads)

-- the pieces of a row, one after another
pub row_flat : {k : Kind} (n : ℕ) (g : PiecesOf k → List Piece) (ts : List (Tree k)) → flat_map g (pieces_of n (row ts)) ≡ flat_map (λ t. g (pieces_of n t)) ts
unfolding pieces_of
row_flat n g [] = refl
row_flat n g (t ∷ ts) = ap (λ ps. g (pieces_of n t) ++ ps) (row_flat n g ts)

pub located_reads : {n D : ℕ} → Reads n D (λ d. pattern.located) (λ x v. pieces_of n v) unnumbered
unfolding pieces_of unnumbered
located_reads {n = n} =
    made (λ m (v : List (Tree APattern) × Option Named). tree.Located (row v.0) v.1) (λ x v. pieces_of n v) unnumbered (λ (v : List (Tree APattern) × Option Named). tree.Located (row v.0) v.1)
    (λ x m v. ap (λ ps. ps ++ named_if (codes "ON") v.1) (row_flat n (λ part. part) v.0)) (λ m v. ap (λ r. tree.Located r (option_map unnumbered_name v.1)) (row_unnumbered v.0))
    (both chain_reads (named_if_reads (codes "ON") refl))
