-- The pieces of the texts of regular path expressions, lexed.
use Rattle.std.proofs.Common.{◌≡◌, ℕ, zero, suc, ◌+◌, ◌<◌, Bool, true, false, not, ◌&&◌, ◌||◌, ◌==◌, List, [], ◌∷◌, ◌++◌, length, take, refl, sym, ap, subst, ◌∙◌, arith, cond, nat_eq, length-append, one-add}
use Rattle.std.specs.Char.{is_ascii_alphabetic}
use Rattle.std.specs.List.{list_all, prefix_len, starts_with, take_while}
use Rattle.std.proofs.lemmas.Bool.{false≢true, eqb-true}
use Rattle.std.proofs.lemmas.List.{take_at}
use Rattle.gc_base.specs.Words.{is_word, is_word_part}
use Rattle.gc_base.proofs.WordLaws.{letter_is_part}
use Rattle.gc_lex.specs.declared.token.Token.{Token}
use Rattle.gc_lex.specs.declared.token.Token.TheVariants.{Word, Symbol}
use Rattle.gc_lex.specs.declared.token.Mark.{Mark}
use Rattle.gc_lex.specs.declared.token.Mark.TheVariants as mark
use Rattle.gc_lex.specs.declared.items.Item.{Item}
use Rattle.gc_lex.specs.declared.items.Item.TheVariants as item
use Rattle.gc_lex.specs.Characters.{is_separator, is_hash}
use Rattle.gc_lex.specs.Items.{first_item, item_of, word_item, symbol_item}
use Rattle.gc_lex.specs.Symbols.{entry_of, symbols}
use Rattle.gc_print.proofs.Lexing.{Lexes, lexes_token, lexes_gap}

-- no word goes on with this text
abbrev pub ends_word : List ℕ → Bool
ends_word [] = true
ends_word (c ∷ cs) = not (is_word_part c)

both_pass : (a b : Bool) → (a && b) ≡ true → (a ≡ true) × (b ≡ true)
both_pass true b h = (refl, h)
both_pass false b h = absurd (false≢true h)

-- a letter is no other character
no_other : (c d : ℕ) → is_ascii_alphabetic c ≡ true → is_ascii_alphabetic d ≡ false → (c == d) ≡ false
no_other c d letter other = by (c == d) refl
  where
    by : (same : Bool) → (c == d) ≡ same → same ≡ false
    by true h = absurd (false≢true (sym other ∙ ap is_ascii_alphabetic (sym (eqb-true c d h)) ∙ letter))
    by false h = refl

other_than : (d c : ℕ) → is_ascii_alphabetic c ≡ true → is_ascii_alphabetic d ≡ false → (d == c) ≡ false
other_than d c letter other = by (d == c) refl
  where
    by : (same : Bool) → (d == c) ≡ same → same ≡ false
    by true h = absurd (false≢true (sym other ∙ ap is_ascii_alphabetic (eqb-true d c h) ∙ letter))
    by false h = refl

-- the front of word parts ends with the word, where what is behind goes on with none
front_of_none : (rest : List ℕ) → ends_word rest ≡ true → prefix_len is_word_part rest ≡ 0
front_of_none [] ends = refl
front_of_none (c ∷ rest) ends = by (is_word_part c) ends
  where
    by : (part : Bool) → not part ≡ true → cond part (1 + prefix_len is_word_part rest) 0 ≡ 0
    by true h = absurd (false≢true h)
    by false h = refl

front_of : (word rest : List ℕ) → list_all is_word_part word ≡ true → ends_word rest ≡ true → prefix_len is_word_part (word ++ rest) ≡ length word
front_of [] rest all ends = front_of_none rest ends
front_of (c ∷ word) rest all ends =
    let both = both_pass (is_word_part c) (list_all is_word_part word) all in
    rw (both.0, one-add) (ap suc (front_of word rest both.1 ends))

-- a word stands first where no word goes on behind it
word_first : (word rest : List ℕ) → is_word word ≡ true → ends_word rest ≡ true → first_item (word ++ rest) ≡ item.Spelled (Word word) (length word)
word_first [] rest is ends = absurd (false≢true is)
word_first (c ∷ cs) rest is ends =
    let both = both_pass (is_ascii_alphabetic c) (list_all is_word_part cs) is in
    let all : list_all is_word_part (c ∷ cs) ≡ true = rw (letter_is_part c both.0) both.1 in
    let front : take_while is_word_part (c ∷ cs ++ rest) ≡ c ∷ cs =
    ap (λ n. take n (c ∷ cs ++ rest)) (front_of (c ∷ cs) rest all ends) ∙ take_at (c ∷ cs) rest (length (c ∷ cs)) refl in
    rw (no_other c 32 both.0 refl, no_other c 9 both.0 refl, no_other c 13 both.0 refl, no_other c 10 both.0 refl, no_other c 35 both.0 refl, both.0)
    (ap word_item front)

word_long : (word : List ℕ) → is_word word ≡ true → 0 < length word
word_long [] is = absurd (false≢true is)
word_long (c ∷ cs) is = omega arith

pub lexes_word : (word rest : List ℕ) (ts : List Token) → is_word word ≡ true → ends_word rest ≡ true → Lexes rest ts → Lexes (word ++ rest) (Word word ∷ ts)
lexes_word word rest ts is ends behind = lexes_token word rest (length word) (Word word) ts refl (word_long word is) (word_first word rest is ends) behind

-- a colon before a word is no longer symbol
colon_first : (word rest : List ℕ) → is_word word ≡ true → first_item (58 ∷ word ++ rest) ≡ item.Spelled (Symbol mark.Colon) 1
colon_first [] rest is = absurd (false≢true is)
colon_first (c ∷ cs) rest is = rw (other_than 61 c (both_pass (is_ascii_alphabetic c) (list_all is_word_part cs) is).0 refl) refl

pub lexes_colon : (word rest : List ℕ) (ts : List Token) → is_word word ≡ true → ends_word rest ≡ true → Lexes rest ts
    → Lexes (58 ∷ (word ++ rest)) (Symbol mark.Colon ∷ Word word ∷ ts)
lexes_colon word rest ts is ends behind =
    lexes_token (58 ∷ []) (word ++ rest) 1 (Symbol mark.Colon) (Word word ∷ ts) refl (omega arith) (colon_first word rest is) (lexes_word word rest ts is ends behind)

-- the symbols that begin no longer one
pub lexes_low_line : (rest : List ℕ) (ts : List Token) → Lexes rest ts → Lexes (95 ∷ rest) (Symbol mark.LowLine ∷ ts)
lexes_low_line rest ts = lexes_token (95 ∷ []) rest 1 (Symbol mark.LowLine) ts refl (omega arith) refl

pub lexes_minus : (rest : List ℕ) (ts : List Token) → Lexes rest ts → Lexes (45 ∷ rest) (Symbol mark.Minus ∷ ts)
lexes_minus rest ts = lexes_token (45 ∷ []) rest 1 (Symbol mark.Minus) ts refl (omega arith) refl

pub lexes_bang : (rest : List ℕ) (ts : List Token) → Lexes rest ts → Lexes (33 ∷ rest) (Symbol mark.Bang ∷ ts)
lexes_bang rest ts = lexes_token (33 ∷ []) rest 1 (Symbol mark.Bang) ts refl (omega arith) refl

pub lexes_tilde : (rest : List ℕ) (ts : List Token) → Lexes rest ts → Lexes (126 ∷ rest) (Symbol mark.Tilde ∷ ts)
lexes_tilde rest ts = lexes_token (126 ∷ []) rest 1 (Symbol mark.Tilde) ts refl (omega arith) refl

pub lexes_star : (rest : List ℕ) (ts : List Token) → Lexes rest ts → Lexes (42 ∷ rest) (Symbol mark.Star ∷ ts)
lexes_star rest ts = lexes_token (42 ∷ []) rest 1 (Symbol mark.Star) ts refl (omega arith) refl

pub lexes_bar : (rest : List ℕ) (ts : List Token) → Lexes rest ts → Lexes (124 ∷ rest) (Symbol mark.Bar ∷ ts)
lexes_bar rest ts = lexes_token (124 ∷ []) rest 1 (Symbol mark.Bar) ts refl (omega arith) refl

pub lexes_open : (rest : List ℕ) (ts : List Token) → Lexes rest ts → Lexes (40 ∷ rest) (Symbol mark.OpenParenthesis ∷ ts)
lexes_open rest ts = lexes_token (40 ∷ []) rest 1 (Symbol mark.OpenParenthesis) ts refl (omega arith) refl

pub lexes_close : (rest : List ℕ) (ts : List Token) → Lexes rest ts → Lexes (41 ∷ rest) (Symbol mark.CloseParenthesis ∷ ts)
lexes_close rest ts = lexes_token (41 ∷ []) rest 1 (Symbol mark.CloseParenthesis) ts refl (omega arith) refl

-- a space before what begins with none
abbrev pub is_dense : List ℕ → Bool
is_dense [] = true
is_dense (c ∷ cs) = not (is_separator c)

space_first : (rest : List ℕ) → is_dense rest ≡ true → first_item (32 ∷ rest) ≡ item.Gap 1
space_first [] dense = refl
space_first (c ∷ rest) dense = by (is_separator c) dense
  where
    by : (separates : Bool) → not separates ≡ true → item.Gap (length (take (1 + cond separates (1 + prefix_len is_separator rest) 0) (32 ∷ c ∷ rest))) ≡ item.Gap 1
    by true h = absurd (false≢true h)
    by false h = refl

pub lexes_space : (rest : List ℕ) (ts : List Token) → is_dense rest ≡ true → Lexes rest ts → Lexes (32 ∷ rest) ts
lexes_space rest ts dense = lexes_gap (32 ∷ []) rest 1 ts refl (omega arith) (space_first rest dense)
