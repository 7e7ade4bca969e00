-- Regular path expressions, spelled anew elsewhere by the same tokens; and the views in them.
use Rattle.std.proofs.Common.{◌≡◌, ℕ, zero, suc, List, [], ◌∷◌, ◌++◌, map, Option, Some, None, refl, sym, ap, subst, ◌∙◌}
use Rattle.gc_lex.specs.declared.token.Token.{Token}
use Rattle.gc_lex.specs.declared.token.Mark.{Mark}
use Rattle.gc_lex.specs.declared.token.Mark.TheVariants as mark
use Rattle.gc_regx.specs.Trees as tree
use Rattle.gc_regx.specs.Trees.{RegexTree, ARegex, ARow, Kind, row}
use Rattle.gc_ast.specs.Trees.{Named}
use Rattle.gc_grammar.specs.Words as words
use Rattle.gc_grammar.specs.Words.{Point, Lang, next, this, that, One, Both, Made, ◌⋅◌, ◌∣◌, ◌⇒◌, ◌▸◌, ◌◂◌, optional, many, several, separated}
use Rattle.gc_grammar.specs.Regexes.{Expression, plain, label, any, test, view, group, atom, star, cat, alt, regex_within, regex, chained, turned, starred, views_of}
use Rattle.gc_print_query.specs.Unnumbered.{unnumbered_name}

-- ---- the same tokens elsewhere

-- a value that is the same but for numbers, from another point on
pub record Moved {A B : Type 0} (L : Lang A) (e : A → B) (ts : List Token) (v : A) (p q r : Point) : Type 0 where
  pub value : A
  pub end : Point
  pub spelled : L r ts value end
  pub same : e value ≡ e v
  pub kept : q.exists ≡ p.exists
  pub kept_there : end.exists ≡ r.exists

pub record Moves {A B : Type 0} (L : Lang A) (e : A → B) : Type 0 where
  pub move : (p q r : Point) (ts : List Token) (v : A) → L p ts v q → Moved L e ts v p q r

one_moves : {A : Type 0} (means : Token → A → Type 0) → Moves (One means) (λ a. a)
one_moves means = record {
  move = λ p q r ts v s. record {
    value = v;
    end = next r;
    spelled = record { token = s.token; alone = s.alone; means = s.means; after = refl };
    same = refl;
    kept = ap (λ (t : Point). t.exists) s.after;
    kept_there = refl;
  };
}

both_move : {A B C E : Type 0} {L : Lang A} {M : Lang C} {e : A → B} {h : C → E} → Moves L e → Moves M h → Moves {B = B × E} (L ⋅ M) (λ v. (e v.0, h v.1))
both_move first second = record {
  move = λ p q r ts v s.
      let a = first.move p s.between r s.early v.0 s.before in
      let b = second.move s.between q a.end s.late v.1 s.behind in
      record {
        value = (a.value, b.value);
        end = b.end;
        spelled = record { early = s.early; late = s.late; between = a.end; whole = s.whole; before = a.spelled; behind = b.spelled };
        same = λ i. (a.same i, b.same i);
        kept = b.kept ∙ a.kept;
        kept_there = b.kept_there ∙ a.kept_there;
      };
}

made_moves : {A B C E : Type 0} {L : Lang A} {e : A → B} (make : ℕ → A → C) (h : C → E) (k : B → E) → ((m : ℕ) (a : A) → h (make m a) ≡ k (e a)) → Moves L e → Moves (L ⇒ make) h
made_moves make h k same moves = record {
  move = λ p q r ts v s.
      let a = moves.move p q r ts s.value s.spelled in
      record {
        value = make r.token a.value;
        end = a.end;
        spelled = record { value = a.value; spelled = a.spelled; made = refl };
        same = same r.token a.value ∙ ap k a.same ∙ sym (same p.token s.value) ∙ ap h (sym s.made);
        kept = a.kept;
        kept_there = a.kept_there;
      };
}

past_moves : {C E : Type 0} {L : Lang (Unit {0})} {M : Lang C} {e : Unit {0} → Unit {0}} {h : C → E} → Moves L e → Moves M h → Moves (L ▸ M) h
past_moves {h = h} first second = made_moves (λ m v. v.1) h (λ v. v.1) (λ m v. refl) (both_move first second)

before_moves : {C E : Type 0} {L : Lang (Unit {0})} {M : Lang C} {e : Unit {0} → Unit {0}} {h : C → E} → Moves M h → Moves L e → Moves (M ◂ L) h
before_moves {h = h} first second = made_moves (λ m v. v.0) h (λ v. v.0) (λ m v. refl) (both_move first second)

either_moves : {A B : Type 0} {L M : Lang A} {e : A → B} → Moves L e → Moves M e → Moves (L ∣ M) e
either_moves {A = A} {L = L} {M = M} {e = e} first second = record { move = by }
  where
    by : (p q r : Point) (ts : List Token) (v : A) → (L ∣ M) p ts v q → Moved (L ∣ M) e ts v p q r
    by p q r ts v (this s) = let a = first.move p q r ts v s in record { value = a.value; end = a.end; spelled = this a.spelled; same = a.same; kept = a.kept; kept_there = a.kept_there }
    by p q r ts v (that s) = let a = second.move p q r ts v s in record { value = a.value; end = a.end; spelled = that a.spelled; same = a.same; kept = a.kept; kept_there = a.kept_there }

mark_moves : (m : Mark) → Moves (words.mark m) (λ u. u)
mark_moves m = one_moves (λ t u. t ≡ _)

optional_moves : (L : Lang (Unit {0})) → Moves L (λ u. u) → Moves (optional L) (λ o. o)
optional_moves L moves = record { move = by }
  where
    by : (p q r : Point) (ts : List Token) (o : Option (Unit {0})) → optional L p ts o q → Moved (optional L) (λ o. o) ts o p q r
    by p q r ts None s = record { value = None; end = r; spelled = (s.0, refl); same = refl; kept = ap (λ (t : Point). t.exists) s.1; kept_there = refl }
    by p q r ts (Some u) s = let a = moves.move p q r ts u s in record { value = Some a.value; end = a.end; spelled = a.spelled; same = refl; kept = a.kept; kept_there = a.kept_there }

each_move : {A B : Type 0} {L : Lang A} {e : A → B} → Moves L e → (vs : List A) (p q r : Point) (ts : List Token) → many L p ts vs q → Moved (many L) (map e) ts vs p q r
each_move moves [] p q r ts s = record { value = []; end = r; spelled = (s.0, refl); same = refl; kept = ap (λ (t : Point). t.exists) s.1; kept_there = refl }
each_move moves (v ∷ vs) p q r ts s =
    let a = moves.move p s.2 r s.0 v s.4 in
    let b = each_move moves vs s.2 q a.end s.1 s.5 in
    record {
      value = a.value ∷ b.value;
      end = b.end;
      spelled = (s.0, s.1, a.end, s.3, a.spelled, b.spelled);
      same = λ i. a.same i ∷ b.same i;
      kept = b.kept ∙ a.kept;
      kept_there = b.kept_there ∙ a.kept_there;
    }

many_move : {A B : Type 0} {L : Lang A} {e : A → B} → Moves L e → Moves (many L) (map e)
many_move moves = record { move = λ p q r ts vs s. each_move moves vs p q r ts s }

several_move : {A B : Type 0} {L : Lang A} {e : A → B} → Moves L e → Moves (several L) (map e)
several_move {e = e} moves = made_moves (λ m v. v.0 ∷ v.1) (map e) (λ v. v.0 ∷ v.1) (λ m v. refl) (both_move moves (many_move moves))

separated_move : {A B : Type 0} {L : Lang A} {S : Lang (Unit {0})} {e : A → B} → Moves L e → Moves S (λ u. u) → Moves (separated L S) (map e)
separated_move {e = e} moves separator = made_moves (λ m v. v.0 ∷ v.1) (map e) (λ v. v.0 ∷ v.1) (λ m v. refl) (both_move moves (many_move (past_moves separator moves)))

-- ---- regular path expressions

-- an expression without the numbers of its views
abbrev pub unnumbered_regex : Expression → Expression
unnumbered_regex e = record { tree = e.tree; views = map unnumbered_name e.views }

abbrev RegexMoves : Lang Expression → Type 0
RegexMoves L = Moves L unnumbered_regex

label_moves : RegexMoves label
label_moves =
    made_moves (λ m (v : List ℕ × Option (Unit {0})). plain (turned (tree.Label v.0) (tree.Back v.0) v.1)) unnumbered_regex (λ (v : List ℕ × Option (Unit {0})). plain (turned (tree.Label v.0) (tree.Back v.0) v.1))
    (λ m v. refl) (both_move (past_moves (mark_moves mark.Colon) (one_moves (λ t a. t ≡ _))) (optional_moves (words.mark mark.Minus) (mark_moves mark.Minus)))

any_moves : RegexMoves any
any_moves =
    made_moves (λ m v. plain (turned tree.Any tree.AnyBack v)) unnumbered_regex (λ v. plain (turned tree.Any tree.AnyBack v)) (λ m v. refl)
    (past_moves (mark_moves mark.LowLine) (optional_moves (words.mark mark.Minus) (mark_moves mark.Minus)))

test_moves : RegexMoves test
test_moves =
    made_moves (λ m v. plain (tree.Test v)) unnumbered_regex (λ v. plain (tree.Test v)) (λ m v. refl)
    (past_moves (mark_moves mark.Bang) (past_moves (mark_moves mark.Colon) (one_moves (λ t a. t ≡ _))))

view_moves : RegexMoves view
view_moves =
    made_moves (λ m (v : Named). record { tree = tree.View v.name; views = v ∷ [] }) unnumbered_regex (λ (v : Named). record { tree = tree.View v.name; views = v ∷ [] }) (λ m v. refl)
    (past_moves (mark_moves mark.Tilde) (made_moves (λ m a. record { name = a; token = m }) unnumbered_name (λ a. record { name = a; token = 0 }) (λ m v. refl) (one_moves _)))

starred_same : (e : Expression) (times : Option (Unit {0})) → unnumbered_regex (starred e times) ≡ starred (unnumbered_regex e) times
starred_same e None = refl
starred_same e (Some u) = refl

map_append : {X Y : Type 0} (f : X → Y) (xs ys : List X) → map f (xs ++ ys) ≡ map f xs ++ map f ys
map_append f [] ys = refl
map_append f (x ∷ xs) ys = ap (λ zs. f x ∷ zs) (map_append f xs ys)

same_trees : (es : List Expression) → map (λ (e : Expression). e.tree) es ≡ map (λ (e : Expression). e.tree) (map unnumbered_regex es)
same_trees [] = refl
same_trees (e ∷ es) = ap (λ ts. e.tree ∷ ts) (same_trees es)

same_views : (es : List Expression) → map unnumbered_name (views_of es) ≡ views_of (map unnumbered_regex es)
same_views [] = refl
same_views (e ∷ es) = map_append unnumbered_name e.views (views_of es) ∙ ap (λ vs. map unnumbered_name e.views ++ vs) (same_views es)

chained_same : (make : RegexTree ARow → RegexTree ARegex) (es : List Expression) → unnumbered_regex (chained make es) ≡ chained make (map unnumbered_regex es)
chained_same make [] = refl
chained_same make (e ∷ []) = refl
chained_same make (e ∷ f ∷ es) = λ i. record { tree = make (row (same_trees (e ∷ f ∷ es) i)); views = same_views (e ∷ f ∷ es) i }

atom_moves : (inside : Lang Expression) → RegexMoves inside → RegexMoves (atom inside)
atom_moves inside moves =
    either_moves label_moves (either_moves any_moves (either_moves test_moves (either_moves view_moves
    (before_moves (past_moves (mark_moves mark.OpenParenthesis) moves) (mark_moves mark.CloseParenthesis)))))

star_moves : (inside : Lang Expression) → RegexMoves inside → RegexMoves (star inside)
star_moves inside moves =
    made_moves (λ m (v : Expression × Option (Unit {0})). starred v.0 v.1) unnumbered_regex (λ (v : Expression × Option (Unit {0})). starred v.0 v.1) (λ m v. starred_same v.0 v.1)
    (both_move (atom_moves inside moves) (optional_moves (words.mark mark.Star) (mark_moves mark.Star)))

cat_moves : (inside : Lang Expression) → RegexMoves inside → RegexMoves (cat inside)
cat_moves inside moves =
    made_moves (λ m parts. chained tree.Cat parts) unnumbered_regex (chained tree.Cat) (λ m parts. chained_same tree.Cat parts) (several_move (star_moves inside moves))

alt_moves : (inside : Lang Expression) → RegexMoves inside → RegexMoves (alt inside)
alt_moves inside moves =
    made_moves (λ m parts. chained tree.Alt parts) unnumbered_regex (chained tree.Alt) (λ m parts. chained_same tree.Alt parts) (separated_move (cat_moves inside moves) (mark_moves mark.Bar))

within_moves : (depth : ℕ) → RegexMoves (regex_within depth)
within_moves zero = record { move = λ p q r ts v s. absurd s }
within_moves (suc depth) = alt_moves (regex_within depth) (within_moves depth)

pub regex_moves : RegexMoves regex
regex_moves = record {
  move = λ p q r ts v s.
      let a = (within_moves s.0).move p q r ts v s.1 in
      record { value = a.value; end = a.end; spelled = (s.0, a.spelled); same = a.same; kept = a.kept; kept_there = a.kept_there };
}

-- ---- the views of an expression are those in its tree

pub views_in : {k : Kind} → RegexTree k → List Named
views_in (tree.Label l) = []
views_in (tree.Back l) = []
views_in tree.Any = []
views_in tree.AnyBack = []
views_in (tree.Test l) = []
views_in (tree.View v) = record { name = v; token = 0 } ∷ []
views_in (tree.Cat parts) = views_in parts
views_in (tree.Alt parts) = views_in parts
views_in (tree.Star part) = views_in part
views_in tree.none = []
views_in (tree.more part parts) = views_in part ++ views_in parts

pub HasViews : Expression → Type 0
HasViews e = map unnumbered_name e.views ≡ views_in e.tree

Shows : Lang Expression → Type 0
Shows L = (p q : Point) (ts : List Token) (e : Expression) → L p ts e q → HasViews e

AllShow : List Expression → Type 0
AllShow [] = Unit {0}
AllShow (e ∷ es) = HasViews e × AllShow es

label_shows : Shows label
unfolding HasViews views_in Shows
label_shows p q ts e s = subst HasViews (sym s.made) (by s.value.1)
  where
    by : (against : Option (Unit {0})) → HasViews (plain (turned (tree.Label s.value.0) (tree.Back s.value.0) against))
    by None = refl
    by (Some u) = refl

any_shows : Shows any
unfolding HasViews views_in Shows
any_shows p q ts e s = subst HasViews (sym s.made) (by s.value)
  where
    by : (against : Option (Unit {0})) → HasViews (plain (turned tree.Any tree.AnyBack against))
    by None = refl
    by (Some u) = refl

test_shows : Shows test
unfolding HasViews views_in Shows
test_shows p q ts e s = subst HasViews (sym s.made) refl

view_shows : Shows view
unfolding HasViews views_in Shows
view_shows p q ts e s = subst HasViews (sym s.made) refl

group_shows : (inside : Lang Expression) → Shows inside → Shows (group inside)
unfolding Shows
group_shows inside shows p q ts e s =
    let opened = s.spelled.before in
    subst HasViews (sym (s.made ∙ opened.made)) (shows opened.spelled.between s.spelled.between opened.spelled.late opened.value.1 opened.spelled.behind)

atom_shows : (inside : Lang Expression) → Shows inside → Shows (atom inside)
unfolding Shows
atom_shows inside shows p q ts e (this s) = label_shows p q ts e s
atom_shows inside shows p q ts e (that (this s)) = any_shows p q ts e s
atom_shows inside shows p q ts e (that (that (this s))) = test_shows p q ts e s
atom_shows inside shows p q ts e (that (that (that (this s)))) = view_shows p q ts e s
atom_shows inside shows p q ts e (that (that (that (that s)))) = group_shows inside shows p q ts e s

star_shows : (inside : Lang Expression) → Shows inside → Shows (star inside)
unfolding Shows HasViews views_in
star_shows inside shows p q ts e s = subst HasViews (sym s.made) (by s.value.1 (atom_shows inside shows p s.spelled.between s.spelled.early s.value.0 s.spelled.before))
  where
    by : (times : Option (Unit {0})) → HasViews s.value.0 → HasViews (starred s.value.0 times)
    by None h = h
    by (Some u) h = h

many_show : (L : Lang Expression) → Shows L → (p q : Point) (ts : List Token) (es : List Expression) → many L p ts es q → AllShow es
unfolding Shows AllShow
many_show L shows p q ts [] s = tt
many_show L shows p q ts (e ∷ es) s = (shows p s.2 s.0 e s.4, many_show L shows s.2 q s.1 es s.5)

row_shows : (es : List Expression) → AllShow es → map unnumbered_name (views_of es) ≡ views_in (row (map (λ (e : Expression). e.tree) es))
unfolding AllShow HasViews views_in
row_shows [] h = refl
row_shows (e ∷ es) h =
    map_append unnumbered_name e.views (views_of es) ∙ ap (λ vs. vs ++ map unnumbered_name (views_of es)) h.0 ∙ ap (λ vs. views_in e.tree ++ vs) (row_shows es h.1)

chained_shows : (make : RegexTree ARow → RegexTree ARegex) → ((parts : RegexTree ARow) → views_in (make parts) ≡ views_in parts) → (e : Expression) (es : List Expression) → AllShow (e ∷ es)
    → HasViews (chained make (e ∷ es))
unfolding AllShow HasViews
chained_shows make views e [] h = h.0
chained_shows make views e (f ∷ es) h =
    row_shows (e ∷ f ∷ es) h ∙ sym (views (row (map (λ (e : Expression). e.tree) (e ∷ f ∷ es))))

cat_shows : (inside : Lang Expression) → Shows inside → Shows (cat inside)
unfolding Shows AllShow views_in
cat_shows inside shows p q ts e s =
    let b = s.spelled.spelled in
    let first = star_shows inside shows p b.between b.early s.spelled.value.0 b.before in
    let later = many_show (star inside) (star_shows inside shows) b.between q b.late s.spelled.value.1 b.behind in
    subst HasViews (sym (s.made ∙ ap (chained tree.Cat) s.spelled.made)) (chained_shows tree.Cat (λ parts. refl) s.spelled.value.0 s.spelled.value.1 (first, later))

branch_shows : (inside : Lang Expression) → Shows inside → Shows (words.mark mark.Bar ▸ cat inside)
unfolding Shows
branch_shows inside shows p q ts e s = subst HasViews (sym s.made) (cat_shows inside shows s.spelled.between q s.spelled.late s.value.1 s.spelled.behind)

alt_shows : (inside : Lang Expression) → Shows inside → Shows (alt inside)
unfolding Shows AllShow views_in
alt_shows inside shows p q ts e s =
    let b = s.spelled.spelled in
    let first = cat_shows inside shows p b.between b.early s.spelled.value.0 b.before in
    let later = many_show (words.mark mark.Bar ▸ cat inside) (branch_shows inside shows) b.between q b.late s.spelled.value.1 b.behind in
    subst HasViews (sym (s.made ∙ ap (chained tree.Alt) s.spelled.made)) (chained_shows tree.Alt (λ parts. refl) s.spelled.value.0 s.spelled.value.1 (first, later))

within_shows : (depth : ℕ) → Shows (regex_within depth)
unfolding Shows
within_shows zero p q ts e s = absurd s
within_shows (suc depth) p q ts e s = alt_shows (regex_within depth) (within_shows depth) p q ts e s

pub regex_shows : (p q : Point) (ts : List Token) (e : Expression) → regex p ts e q → map unnumbered_name e.views ≡ views_in e.tree
unfolding Shows HasViews
regex_shows p q ts e s = within_shows s.0 p q ts e s.1
