-- The grammar gives no other expressions than those of which labels are words, views names, and lists long.
use Rattle.std.proofs.Common.{◌≡◌, ℕ, zero, suc, true, false, List, [], ◌∷◌, ◌++◌, map, Option, Some, None, sym, ap, subst, ◌∙◌}
use Rattle.gc_base.specs.Words.{is_word, is_reserved}
use Rattle.gc_lex.specs.declared.token.Token.{Token}
use Rattle.gc_lex.specs.declared.token.Token.TheVariants.{Word}
use Rattle.gc_lex.specs.declared.token.Mark.{Mark}
use Rattle.gc_lex.specs.declared.token.Mark.TheVariants as mark
use Rattle.gc_regx.specs.Trees as tree
use Rattle.gc_regx.specs.Trees.{RegexTree, ARegex, ARow, none, more, row}
use Rattle.gc_ast.specs.Trees.{Named}
use Rattle.gc_grammar.specs.Words.{Point, Lang, IsName, One, Both, Made, Either, this, that, many, several, separated, ◌▸◌}
use Rattle.gc_grammar.specs.Words as words
use Rattle.gc_grammar.specs.Regexes.{Expression, plain, label, any, test, view, group, atom, star, cat, alt, regex_within, chained, turned, starred}
use Rattle.gc_grammar.specs.Queries.{SpellsRegex}
use Rattle.gc_regx.specs.Expressions.{IsFormed, IsLong, IsExpression}
use Rattle.gc_print.specs.WrittenTokens.{AreWritten}

front_written : (xs ys : List Token) → AreWritten (xs ++ ys) → AreWritten xs
front_written [] ys h = tt
front_written (x ∷ xs) ys h = (h.0, front_written xs ys h.1)

back_written : (xs ys : List Token) → AreWritten (xs ++ ys) → AreWritten ys
back_written [] ys h = h
back_written (x ∷ xs) ys h = back_written xs ys h.1

-- both parts of tokens that can be written
early_written : (ts early late : List Token) → ts ≡ early ++ late → AreWritten ts → AreWritten early
early_written ts early late whole h = front_written early late (subst AreWritten whole h)

late_written : (ts early late : List Token) → ts ≡ early ++ late → AreWritten ts → AreWritten late
late_written ts early late whole h = back_written early late (subst AreWritten whole h)

-- the word of a token
word_is : (p q : Point) (ts : List Token) (a : List ℕ) → AreWritten ts → words.word p ts a q → is_word a ≡ true
word_is p q ts a h one = by (subst AreWritten (one.alone ∙ ap (λ t. t ∷ []) one.means) h)
  where
    by : AreWritten (Word a ∷ []) → is_word a ≡ true
    by w = w.0

-- what a language gives of tokens that can be written is an expression
abbrev Gives : Lang Expression → Type 0
Gives L = (p q : Point) (ts : List Token) (e : Expression) → AreWritten ts → L p ts e q → IsExpression e.tree

behind_written : {A : Type 0} (m : Mark) (L : Lang A) (P : A → Type 0) → ((p q : Point) (ts : List Token) (a : A) → AreWritten ts → L p ts a q → P a)
    → (p q : Point) (ts : List Token) (a : A) → AreWritten ts → (words.mark m ▸ L) p ts a q → P a
behind_written m L P gives p q ts a h s =
    subst P (sym s.made) (gives s.spelled.between q s.spelled.late s.value.1 (late_written ts s.spelled.early s.spelled.late s.spelled.whole h) s.spelled.behind)

label_gives : Gives label
unfolding IsFormed
label_gives p q ts e h s = by s.value.1 (s.made)
  where
    is : is_word s.value.0 ≡ true
    is = behind_written mark.Colon words.word (λ a. is_word a ≡ true) word_is p s.spelled.between s.spelled.early s.value.0 (early_written ts s.spelled.early s.spelled.late s.spelled.whole h) s.spelled.before

    by : (against : Option (Unit {0})) → e ≡ plain (turned (tree.Label s.value.0) (tree.Back s.value.0) against) → IsExpression e.tree
    by None made = subst (λ (f : Expression). IsExpression f.tree) (sym made) is
    by (Some u) made = subst (λ (f : Expression). IsExpression f.tree) (sym made) is

any_gives : Gives any
unfolding IsFormed
any_gives p q ts e h s = by s.value s.made
  where
    by : (against : Option (Unit {0})) → e ≡ plain (turned tree.Any tree.AnyBack against) → IsExpression e.tree
    by None made = subst (λ (f : Expression). IsExpression f.tree) (sym made) tt
    by (Some u) made = subst (λ (f : Expression). IsExpression f.tree) (sym made) tt

test_gives : Gives test
unfolding IsFormed
test_gives p q ts e h s =
    subst (λ (f : Expression). IsExpression f.tree) (sym s.made)
    (behind_written mark.Bang (words.mark mark.Colon ▸ words.word) (λ a. is_word a ≡ true)
    (behind_written mark.Colon words.word (λ a. is_word a ≡ true) word_is) p q ts s.value h s.spelled)

name_is : (p q : Point) (ts : List Token) (a : Named) → AreWritten ts → words.name p ts a q → (is_word a.name ≡ true) × (is_reserved a.name ≡ false)
unfolding IsName
name_is p q ts a h s =
    let word = s.spelled in
    let is = word_is p q ts s.value h (record { token = word.token; alone = word.alone; means = word.means.0; after = word.after }) in
    subst (λ (n : Named). (is_word n.name ≡ true) × (is_reserved n.name ≡ false)) (sym s.made) (is, word.means.1)

view_gives : Gives view
unfolding IsFormed
view_gives p q ts e h s =
    subst (λ (f : Expression). IsExpression f.tree) (sym s.made)
    (behind_written mark.Tilde words.name (λ n. (is_word n.name ≡ true) × (is_reserved n.name ≡ false)) name_is p q ts s.value h s.spelled)

group_gives : (inside : Lang Expression) → Gives inside → Gives (group inside)
group_gives inside gives p q ts e h s =
    subst (λ (f : Expression). IsExpression f.tree) (sym s.made)
    (behind_written mark.OpenParenthesis inside (λ f. IsExpression f.tree) gives p s.spelled.between s.spelled.early s.value.0
    (early_written ts s.spelled.early s.spelled.late s.spelled.whole h) s.spelled.before)

atom_gives : (inside : Lang Expression) → Gives inside → Gives (atom inside)
atom_gives inside gives p q ts e h (this s) = label_gives p q ts e h s
atom_gives inside gives p q ts e h (that (this s)) = any_gives p q ts e h s
atom_gives inside gives p q ts e h (that (that (this s))) = test_gives p q ts e h s
atom_gives inside gives p q ts e h (that (that (that (this s)))) = view_gives p q ts e h s
atom_gives inside gives p q ts e h (that (that (that (that s)))) = group_gives inside gives p q ts e h s

star_gives : (inside : Lang Expression) → Gives inside → Gives (star inside)
unfolding IsFormed
star_gives inside gives p q ts e h s = by s.value.1 s.made
  where
    part : IsExpression s.value.0.tree
    part = atom_gives inside gives p s.spelled.between s.spelled.early s.value.0 (early_written ts s.spelled.early s.spelled.late s.spelled.whole h) s.spelled.before

    by : (times : Option (Unit {0})) → e ≡ starred s.value.0 times → IsExpression e.tree
    by None made = subst (λ (f : Expression). IsExpression f.tree) (sym made) part
    by (Some u) made = subst (λ (f : Expression). IsExpression f.tree) (sym made) part

many_give : (L : Lang Expression) → Gives L → (p q : Point) (ts : List Token) (es : List Expression) → AreWritten ts → many L p ts es q → IsExpression (row (map (λ e. e.tree) es))
unfolding IsFormed
many_give L gives p q ts [] h s = tt
many_give L gives p q ts (e ∷ es) h s =
    (gives p s.2 s.0 e (early_written ts s.0 s.1 s.3 h) s.4, many_give L gives s.2 q s.1 es (late_written ts s.0 s.1 s.3 h) s.5)

-- one part is itself, and two or more are a long list
chained_is : (make : RegexTree ARow → RegexTree ARegex) → ((parts : RegexTree ARow) → IsLong parts → IsExpression parts → IsExpression (make parts))
    → (e : Expression) (es : List Expression) → IsExpression e.tree → IsExpression (row (map (λ f. f.tree) es)) → IsExpression (chained make (e ∷ es)).tree
unfolding IsFormed
chained_is make is e [] first later = first
chained_is make is e (f ∷ es) first later = is (more e.tree (more f.tree (row (map (λ g. g.tree) es)))) tt (first, later)

cat_gives : (inside : Lang Expression) → Gives inside → Gives (cat inside)
unfolding IsFormed
cat_gives inside gives p q ts e h s =
    let list = s.spelled in
    let both = list.spelled in
    let first = star_gives inside gives p both.between both.early list.value.0 (early_written ts both.early both.late both.whole h) both.before in
    let later = many_give (star inside) (star_gives inside gives) both.between q both.late list.value.1 (late_written ts both.early both.late both.whole h) both.behind in
    subst (λ (f : Expression). IsExpression f.tree) (sym (s.made ∙ ap (chained tree.Cat) list.made))
    (chained_is tree.Cat (λ parts long is. (long, is)) list.value.0 list.value.1 first later)

alt_gives : (inside : Lang Expression) → Gives inside → Gives (alt inside)
unfolding IsFormed
alt_gives inside gives p q ts e h s =
    let list = s.spelled in
    let both = list.spelled in
    let first = cat_gives inside gives p both.between both.early list.value.0 (early_written ts both.early both.late both.whole h) both.before in
    let later = many_give (words.mark mark.Bar ▸ cat inside) (λ p q ts e. behind_written mark.Bar (cat inside) (λ f. IsExpression f.tree) (cat_gives inside gives) p q ts e)
    both.between q both.late list.value.1 (late_written ts both.early both.late both.whole h) both.behind in
    subst (λ (f : Expression). IsExpression f.tree) (sym (s.made ∙ ap (chained tree.Alt) list.made))
    (chained_is tree.Alt (λ parts long is. (long, is)) list.value.0 list.value.1 first later)

within_gives : (depth : ℕ) → Gives (regex_within depth)
within_gives zero p q ts e h s = absurd s
within_gives (suc depth) p q ts e h s = alt_gives (regex_within depth) (within_gives depth) p q ts e h s

-- what tokens that can be written spell
pub regex_gives : (ts : List Token) (t : RegexTree ARegex) → AreWritten ts → SpellsRegex ts t → IsExpression t
regex_gives ts t h s = subst IsExpression s.3 (within_gives s.2.0 _ s.0 ts s.1 h s.2.1)
