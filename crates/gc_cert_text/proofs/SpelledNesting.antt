-- An expression that tokens spell nests no deeper than their brackets.
use Rattle.std.proofs.Common.{◌≡◌, ℕ, zero, suc, ◌+◌, ◌≤◌, max, Bool, true, false, nat_lt, List, [], ◌∷◌, ◌++◌, map, take, Option, Some, None, refl, sym, ap, subst, ◌∙◌, cond, arith}
use Rattle.std.proofs.lemmas.Bool.Decides.{nat_tests}
use Rattle.gc_ast.specs.Trees.{Named}
use Rattle.gc_grammar.specs.Queries.{SpellsRegex}
use Rattle.gc_grammar.specs.Regexes.{Expression, alt, any, atom, cat, chained, group, label, plain, regex_within, star, starred, test, turned, view}
use Rattle.gc_grammar.specs.Words as words
use Rattle.gc_grammar.specs.Words.{Lang, Point, many, that, this, ◌▸◌}
use Rattle.gc_lex.specs.declared.token.Mark.{Mark}
use Rattle.gc_lex.specs.declared.token.Mark.TheVariants as mark
use Rattle.gc_lex.specs.declared.token.Token.{Token}
use Rattle.gc_lex.specs.declared.token.Token.TheVariants.{Symbol, Word}
use Rattle.gc_parse.specs.Depths.{IsDepthFault, is_closing, is_closing_mark, is_opening, is_opening_mark}
use Rattle.gc_regx.specs.Trees as tree
use Rattle.gc_regx.specs.Trees.{RegexTree, ARegex, ARow, row}
use Rattle.gc_cert_text.specs.Nesting.{NestedPart, deepest, enclosed_depth, nested, nesting_of}
use Rattle.gc_cert_text.proofs.Fronts.{closed, counts, opened}

-- in no front are more than so many open
abbrev Fronts : ℕ → List Token → Type 0
Fronts n ts = (k : ℕ) → opened (take k ts) ≤ closed (take k ts) + n

-- as many are closed as are opened, and fronts reach so high
record Reaches (depth : ℕ) (ts : List Token) : Type 0 where
  pub even : opened ts ≡ closed ts
  pub high : (n : ℕ) → Fronts n ts → depth ≤ n

-- ---- fronts of parts

front_of_first : (k : ℕ) (a b : List Token) → (j : ℕ) × (take j (a ++ b) ≡ take k a)
front_of_first zero [] b = (0, refl)
front_of_first (suc k) [] b = (0, refl)
front_of_first zero (t ∷ a) b = (0, refl)
front_of_first (suc k) (t ∷ a) b = let rest = front_of_first k a b in (suc rest.0, ap (λ l. t ∷ l) rest.1)

front_past_first : (k : ℕ) (a b : List Token) → (j : ℕ) × (take j (a ++ b) ≡ a ++ take k b)
front_past_first k [] b = (k, refl)
front_past_first k (t ∷ a) b = let rest = front_past_first k a b in (suc rest.0, ap (λ l. t ∷ l) rest.1)

early_fronts : (n : ℕ) (a b : List Token) → Fronts n (a ++ b) → Fronts n a
early_fronts n a b h = λ k.
    let front = front_of_first k a b in
    subst (λ l. opened l ≤ closed l + n) front.1 (h front.0)

late_fronts : (m n : ℕ) (a b : List Token) → closed a + m ≤ opened a + n → Fronts m (a ++ b) → Fronts n b
late_fronts m n a b even h = λ k.
    let front = front_past_first k a b in
    let whole = subst (λ l. opened l ≤ closed l + m) front.1 (h front.0) in
    omega (arith, whole, even, counts is_opening a (take k b), counts is_closing a (take k b))

-- one list and another
both_reach : (d e : ℕ) (ts a b : List Token) → ts ≡ a ++ b → Reaches d a → Reaches e b → Reaches (max d e) ts
both_reach d e ts a b whole first second = record {
  even = subst (λ l. opened l ≡ closed l) (sym whole) (omega (arith, first.even, second.even, counts is_opening a b, counts is_closing a b));
  high = λ n h.
      let fronts = subst (Fronts n) whole h in
      let early = first.high n (early_fronts n a b fronts) in
      let late = second.high n (late_fronts n n a b (omega (arith, first.even)) fronts) in
      omega (arith, early, late);
}

less_reach : (d e : ℕ) (ts : List Token) → e ≤ d → Reaches d ts → Reaches e ts
less_reach d e ts le h = record { even = h.even; high = λ n f. omega (arith, le, h.high n f) }

none_reach : (ts : List Token) → ts ≡ [] → Reaches 0 ts
none_reach ts is = record { even = subst (λ l. opened l ≡ closed l) (sym is) refl; high = λ n h. omega arith }

-- ---- tokens that are no brackets

one_reaches : (ts : List Token) (t s : Token) → ts ≡ t ∷ [] → t ≡ s → is_opening s ≡ false → is_closing s ≡ false → Reaches 0 ts
one_reaches ts t s alone means opens closes = record {
  even = subst (λ l. opened l ≡ closed l) (sym (alone ∙ ap (λ x. x ∷ []) means)) (rw (opens, closes) refl);
  high = λ n h. omega arith;
}

mark_reaches : (m : Mark) → is_opening_mark m ≡ false → is_closing_mark m ≡ false → (p q : Point) (ts : List Token) (u : Unit {0}) → words.mark m p ts u q → Reaches 0 ts
mark_reaches m opens closes p q ts u s = one_reaches ts s.token (Symbol m) s.alone s.means opens closes

word_reaches : (p q : Point) (ts : List Token) (a : List ℕ) → words.word p ts a q → Reaches 0 ts
word_reaches p q ts a s = one_reaches ts s.token (Word a) s.alone s.means refl refl

name_reaches : (p q : Point) (ts : List Token) (a : Named) → words.name p ts a q → Reaches 0 ts
name_reaches p q ts a s = one_reaches ts s.spelled.token (Word s.value) s.spelled.alone s.spelled.means.0 refl refl

optional_reaches : (m : Mark) → is_opening_mark m ≡ false → is_closing_mark m ≡ false → (p q : Point) (ts : List Token) (o : Option (Unit {0}))
    → words.optional (words.mark m) p ts o q → Reaches 0 ts
optional_reaches m opens closes p q ts None s = none_reach ts s.0
optional_reaches m opens closes p q ts (Some u) s = mark_reaches m opens closes p q ts u s

behind_reaches : {A : Type 0} (m : Mark) → is_opening_mark m ≡ false → is_closing_mark m ≡ false → (L : Lang A) (d : A → ℕ)
    → ((p q : Point) (ts : List Token) (a : A) → L p ts a q → Reaches (d a) ts) → (p q : Point) (ts : List Token) (a : A) → (words.mark m ▸ L) p ts a q → Reaches (d a) ts
behind_reaches m opens closes L d each p q ts a s =
    let both = s.spelled in
    let first = mark_reaches m opens closes p both.between both.early s.value.0 both.before in
    subst (λ x. Reaches (d x) ts) (sym s.made)
    (less_reach (max 0 (d s.value.1)) (d s.value.1) ts (omega arith)
    (both_reach 0 (d s.value.1) ts both.early both.late both.whole first (each both.between q both.late s.value.1 both.behind)))

-- ---- expressions

-- how deep an expression nests where only those up to some looseness stand without parentheses
abbrev deep : ℕ → Expression → ℕ
deep most e = enclosed_depth most (nested e.tree (nesting_of e.tree))

-- what a language gives nests so deep at most
abbrev Nests : ℕ → Lang Expression → Type 0
Nests most L = (p q : Point) (ts : List Token) (e : Expression) → L p ts e q → Reaches (deep most e) ts

looser : (most more : ℕ) (part : NestedPart) → most ≤ more → enclosed_depth more part ≤ enclosed_depth most part
looser most more part le = by (nat_lt most part.looseness) (nat_lt more part.looseness) refl refl
  where
    by : (a b : Bool) → nat_lt most part.looseness ≡ a → nat_lt more part.looseness ≡ b → cond b (part.depth + 1) part.depth ≤ cond a (part.depth + 1) part.depth
    by true true x y = omega arith
    by true false x y = omega arith
    by false false x y = omega arith
    by false true x y = absurd (grind (arith, nat_tests, le, x, y))

at_looser : (most more : ℕ) → most ≤ more → (L : Lang Expression) → Nests most L → Nests more L
at_looser most more le L nests p q ts e s = less_reach (deep most e) (deep more e) ts (looser most more (nested e.tree (nesting_of e.tree)) le) (nests p q ts e s)

label_nests : Nests 0 label
unfolding nesting_of
label_nests p q ts e s = by s.value.1 s.made
  where
    both : Reaches 0 ts
    both =
        both_reach 0 0 ts s.spelled.early s.spelled.late s.spelled.whole
        (behind_reaches mark.Colon refl refl words.word (λ a. 0) word_reaches p s.spelled.between s.spelled.early s.value.0 s.spelled.before)
        (optional_reaches mark.Minus refl refl s.spelled.between q s.spelled.late s.value.1 s.spelled.behind)

    by : (against : Option (Unit {0})) → e ≡ plain (turned (tree.Label s.value.0) (tree.Back s.value.0) against) → Reaches (deep 0 e) ts
    by None made = subst (λ (f : Expression). Reaches (deep 0 f) ts) (sym made) both
    by (Some u) made = subst (λ (f : Expression). Reaches (deep 0 f) ts) (sym made) both

any_nests : Nests 0 any
unfolding nesting_of
any_nests p q ts e s = by s.value s.made
  where
    both : Reaches 0 ts
    both =
        behind_reaches mark.LowLine refl refl (words.optional (words.mark mark.Minus)) (λ a. 0) (optional_reaches mark.Minus refl refl) p q ts s.value s.spelled

    by : (against : Option (Unit {0})) → e ≡ plain (turned tree.Any tree.AnyBack against) → Reaches (deep 0 e) ts
    by None made = subst (λ (f : Expression). Reaches (deep 0 f) ts) (sym made) both
    by (Some u) made = subst (λ (f : Expression). Reaches (deep 0 f) ts) (sym made) both

test_nests : Nests 0 test
unfolding nesting_of
test_nests p q ts e s =
    subst (λ (f : Expression). Reaches (deep 0 f) ts) (sym s.made)
    (behind_reaches mark.Bang refl refl (words.mark mark.Colon ▸ words.word) (λ a. 0)
    (behind_reaches mark.Colon refl refl words.word (λ a. 0) word_reaches) p q ts s.value s.spelled)

view_nests : Nests 0 view
unfolding nesting_of
view_nests p q ts e s =
    subst (λ (f : Expression). Reaches (deep 0 f) ts) (sym s.made) (behind_reaches mark.Tilde refl refl words.name (λ a. 0) name_reaches p q ts s.value s.spelled)

-- in parentheses what is inside may nest one less
grouped : (d : ℕ) (ts inner before after : List Token) (opening closing : Token) → before ≡ opening ∷ [] → opening ≡ Symbol mark.OpenParenthesis → after ≡ closing ∷ []
    → closing ≡ Symbol mark.CloseParenthesis → ts ≡ (before ++ inner) ++ after → Reaches d inner → Reaches (d + 1) ts
grouped d ts inner before after opening closing opens is closes are whole h = subst (Reaches (d + 1)) (sym same) reaches
  where
    first : List Token
    first = Symbol mark.OpenParenthesis ∷ []

    last : List Token
    last = Symbol mark.CloseParenthesis ∷ []

    same : ts ≡ (first ++ inner) ++ last
    same = whole ∙ (λ i. ((opens ∙ ap (λ t. t ∷ []) is) i ++ inner) ++ (closes ∙ ap (λ t. t ∷ []) are) i)

    at_least : (n : ℕ) → Fronts n ((first ++ inner) ++ last) → d + 1 ≤ n
    at_least zero f = absurd (omega (arith, f 1))
    at_least (suc n) f =
        omega (arith, h.high n (late_fronts (suc n) n first inner (omega arith) (early_fronts (suc n) (first ++ inner) last f)))

    reaches : Reaches (d + 1) ((first ++ inner) ++ last)
    reaches = record {
      even = omega (arith, h.even, counts is_opening (first ++ inner) last, counts is_closing (first ++ inner) last, counts is_opening first inner, counts is_closing first inner);
      high = at_least;
    }

within_one : (most : ℕ) (part : NestedPart) → enclosed_depth most part ≤ part.depth + 1
within_one most part = by (nat_lt most part.looseness)
  where
    by : (a : Bool) → cond a (part.depth + 1) part.depth ≤ part.depth + 1
    by true = omega arith
    by false = omega arith

at_least_depth : (most : ℕ) (part : NestedPart) → part.depth ≤ enclosed_depth most part
at_least_depth most part = by (nat_lt most part.looseness)
  where
    by : (a : Bool) → part.depth ≤ cond a (part.depth + 1) part.depth
    by true = omega arith
    by false = omega arith

group_nests : (inside : Lang Expression) → Nests 3 inside → Nests 0 (group inside)
group_nests inside nests p q ts e s =
    let outer = s.spelled in
    let inner = outer.before in
    let both = inner.spelled in
    let part : NestedPart = nested inner.value.1.tree (nesting_of inner.value.1.tree) in
    let reached = nests both.between outer.between both.late inner.value.1 both.behind in
    let whole : ts ≡ (both.early ++ both.late) ++ outer.late = outer.whole ∙ ap (λ l. l ++ outer.late) both.whole in
    let around = grouped (enclosed_depth 3 part) ts both.late both.early outer.late both.before.token outer.behind.token both.before.alone both.before.means outer.behind.alone outer.behind.means whole reached in
    subst (λ (f : Expression). Reaches (deep 0 f) ts) (sym (s.made ∙ inner.made))
    (less_reach (enclosed_depth 3 part + 1) (enclosed_depth 0 part) ts (omega (arith, within_one 0 part, at_least_depth 3 part)) around)

atom_nests : (inside : Lang Expression) → Nests 3 inside → Nests 0 (atom inside)
atom_nests inside nests p q ts e (this s) = label_nests p q ts e s
atom_nests inside nests p q ts e (that (this s)) = any_nests p q ts e s
atom_nests inside nests p q ts e (that (that (this s))) = test_nests p q ts e s
atom_nests inside nests p q ts e (that (that (that (this s)))) = view_nests p q ts e s
atom_nests inside nests p q ts e (that (that (that (that s)))) = group_nests inside nests p q ts e s

star_nests : (inside : Lang Expression) → Nests 3 inside → Nests 1 (star inside)
unfolding nesting_of
star_nests inside nests p q ts e s = by s.value.1 s.made
  where
    both : Reaches (deep 0 s.value.0) ts
    both =
        less_reach (max (deep 0 s.value.0) 0) (deep 0 s.value.0) ts (omega arith)
        (both_reach (deep 0 s.value.0) 0 ts s.spelled.early s.spelled.late s.spelled.whole
        (atom_nests inside nests p s.spelled.between s.spelled.early s.value.0 s.spelled.before)
        (optional_reaches mark.Star refl refl s.spelled.between q s.spelled.late s.value.1 s.spelled.behind))

    by : (times : Option (Unit {0})) → e ≡ starred s.value.0 times → Reaches (deep 1 e) ts
    by None made =
        subst (λ (f : Expression). Reaches (deep 1 f) ts) (sym made)
        (less_reach (deep 0 s.value.0) (deep 1 s.value.0) ts (looser 0 1 (nested s.value.0.tree (nesting_of s.value.0.tree)) (omega arith)) both)
    by (Some u) made = subst (λ (f : Expression). Reaches (deep 1 f) ts) (sym made) both

-- how deep the deepest of some expressions nests
abbrev deepest_of : ℕ → List Expression → ℕ
deepest_of most es = deepest most (nesting_of (row (map (λ e. e.tree) es)))

many_nest : (most : ℕ) (L : Lang Expression) → Nests most L → (p q : Point) (ts : List Token) (es : List Expression) → many L p ts es q → Reaches (deepest_of most es) ts
unfolding nesting_of
many_nest most L nests p q ts [] s = none_reach ts s.0
many_nest most L nests p q ts (e ∷ es) s =
    both_reach (deep most e) (deepest_of most es) ts s.0 s.1 s.3 (nests p s.2 s.0 e s.4) (many_nest most L nests s.2 q s.1 es s.5)

-- one part is itself, and two or more are a list
chained_reaches : (most next : ℕ) (make : RegexTree ARow → RegexTree ARegex) → most ≤ next
    → ((parts : RegexTree ARow) → enclosed_depth next (nested (make parts) (nesting_of (make parts))) ≤ deepest most (nesting_of parts))
    → (e : Expression) (es : List Expression) (ts : List Token) → Reaches (max (deep most e) (deepest_of most es)) ts → Reaches (deep next (chained make (e ∷ es))) ts
unfolding nesting_of
chained_reaches most next make le within e [] ts h =
    less_reach (max (deep most e) 0) (deep next e) ts (omega (arith, looser most next (nested e.tree (nesting_of e.tree)) le)) h
chained_reaches most next make le within e (f ∷ es) ts h =
    let parts : RegexTree ARow = row (map (λ g. g.tree) (e ∷ f ∷ es)) in
    less_reach (max (deep most e) (deepest_of most (f ∷ es))) (enclosed_depth next (nested (make parts) (nesting_of (make parts)))) ts (within parts) h

cat_nests : (inside : Lang Expression) → Nests 3 inside → Nests 2 (cat inside)
unfolding nesting_of
cat_nests inside nests p q ts e s =
    let list = s.spelled in
    let both = list.spelled in
    let first = star_nests inside nests p both.between both.early list.value.0 both.before in
    let later = many_nest 1 (star inside) (star_nests inside nests) both.between q both.late list.value.1 both.behind in
    subst (λ (f : Expression). Reaches (deep 2 f) ts) (sym (s.made ∙ ap (chained tree.Cat) list.made))
    (chained_reaches 1 2 tree.Cat (omega arith) (λ parts. omega arith) list.value.0 list.value.1 ts
    (both_reach (deep 1 list.value.0) (deepest_of 1 list.value.1) ts both.early both.late both.whole first later))

alt_nests : (inside : Lang Expression) → Nests 3 inside → Nests 3 (alt inside)
unfolding nesting_of
alt_nests inside nests p q ts e s =
    let list = s.spelled in
    let both = list.spelled in
    let first = cat_nests inside nests p both.between both.early list.value.0 both.before in
    let later = many_nest 2 (words.mark mark.Bar ▸ cat inside) (behind_reaches mark.Bar refl refl (cat inside) (deep 2) (cat_nests inside nests))
    both.between q both.late list.value.1 both.behind in
    subst (λ (f : Expression). Reaches (deep 3 f) ts) (sym (s.made ∙ ap (chained tree.Alt) list.made))
    (chained_reaches 2 3 tree.Alt (omega arith) (λ parts. omega arith) list.value.0 list.value.1 ts
    (both_reach (deep 2 list.value.0) (deepest_of 2 list.value.1) ts both.early both.late both.whole first later))

within_nests : (depth : ℕ) → Nests 3 (regex_within depth)
within_nests zero p q ts e s = absurd s
within_nests (suc depth) p q ts e s = alt_nests (regex_within depth) (within_nests depth) p q ts e s

-- what tokens spell nests at most 64 deep where their brackets are not too deep
pub spelled_nests : (ts : List Token) (t : RegexTree ARegex) → IsDepthFault ts None → SpellsRegex ts t → nesting_of {k = ARegex} t ≤ 64
spelled_nests ts t shallow s =
    let e = s.1 in
    let reached = within_nests s.2.0 _ s.0 ts e s.2.1 in
    let fronts : Fronts 64 ts = λ k. by k (nat_lt (closed (take k ts) + 64) (opened (take k ts))) refl in
    subst (λ x. nesting_of {k = ARegex} x ≤ 64) s.3 (omega (arith, reached.high 64 fronts, at_least_depth 3 (nested e.tree (nesting_of e.tree))))
  where
    by : (k : ℕ) (b : Bool) → nat_lt (closed (take k ts) + 64) (opened (take k ts)) ≡ b → opened (take k ts) ≤ closed (take k ts) + 64
    by k true is = absurd (shallow k (grind (arith, nat_tests, is)))
    by k false is = grind (arith, nat_tests, is)
