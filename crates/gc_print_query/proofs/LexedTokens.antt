-- The texts of tokens, lexed.
use Rattle.std.proofs.Common.{◌≡◌, ℕ, suc, ◌+◌, ◌<◌, ◌≤◌, Bool, true, false, not, ◌&&◌, ◌||◌, ◌==◌, List, [], ◌∷◌, ◌++◌, length, take, pos, negsuc, refl, sym, ap, ◌∙◌, arith, cond, nat_le, one-add, ne_eqb, length-append, append_assoc}
use Rattle.std.specs.Char.{is_ascii_alphabetic, is_ascii_digit}
use Rattle.std.specs.List.{flat_map, list_all, prefix_len, take_while}
use Rattle.std.specs.Prelude.{decimal}
use Rattle.std.specs.Str.{all_ascii_digits}
use Rattle.std.specs.Str.Parse.{digits_value}
use Rattle.std.proofs.lemmas.Bool.{false≢true, eqb-true}
use Rattle.std.proofs.lemmas.Bool.Decides.{nat_tests}
use Rattle.std.proofs.lemmas.Fmt.{decimal_is_IsNumeral, decimal_nonempty}
use Rattle.std.proofs.lemmas.List.{take_at}
use Rattle.std.proofs.lemmas.Str.Parse.{IsNumeralModel, numerals_by_value, tells_all_ascii_digits}
use Rattle.gc_base.specs.Words.{is_word, is_word_part}
use Rattle.gc_base.proofs.WordLaws.{letter_is_part}
use Rattle.gc_lex.specs.declared.token.Token.{Token}
use Rattle.gc_lex.specs.declared.token.Token.TheVariants.{Word, Number, Text, Symbol}
use Rattle.gc_lex.specs.declared.token.Mark.{Mark}
use Rattle.gc_lex.specs.declared.token.Mark.TheVariants as mark
use Rattle.gc_lex.specs.declared.items.Item.TheVariants as item
use Rattle.gc_lex.specs.Characters.{is_separator, is_hash}
use Rattle.gc_lex.specs.Contents.{Body, Closed, body_of, byte_before}
use Rattle.gc_lex.specs.Items.{first_item, number_item, text_item}
use Rattle.gc_print.proofs.Lexing.{Lexes, lexes_token}
use Rattle.gc_print.proofs.LexedTexts.{ends_word, lexes_word}
use Rattle.gc_print_query.specs.Pieces.{run_together, last_behind}
use Rattle.gc_print_query.specs.Tokens.{IsWritable}
use Rattle.gc_print_query.specs.TokenTexts.{mark_text, escaped, quoted, spelled}

-- a byte runs together with nothing that stands behind it
abbrev pub is_parted : ℕ → List ℕ → Bool
is_parted last [] = true
is_parted last (c ∷ cs) = not (run_together last c)

neither : (a b : Bool) → not (a || b) ≡ true → (a ≡ false) × (b ≡ false)
neither true b h = absurd (false≢true h)
neither false true h = absurd (false≢true h)
neither false false h = (refl, refl)

both_pass : (a b : Bool) → (a && b) ≡ true → (a ≡ true) × (b ≡ true)
both_pass true b h = (refl, h)
both_pass false b h = absurd (false≢true h)

-- ---- words

last_is_part : (c : ℕ) (cs : List ℕ) → is_word_part c ≡ true → list_all is_word_part cs ≡ true → is_word_part (last_behind c cs) ≡ true
last_is_part c [] is all = is
last_is_part c (d ∷ cs) is all =
    let both = both_pass (is_word_part d) (list_all is_word_part cs) all in
    last_is_part d cs both.0 both.1

ends_behind : (last : ℕ) (rest : List ℕ) → is_word_part last ≡ true → is_parted last rest ≡ true → ends_word rest ≡ true
ends_behind last [] is parted = refl
ends_behind last (c ∷ rest) is parted =
    let h : not (is_word_part c || ((last == 58 || last == 60 || last == 62) && (c == 61 || c == 62))) ≡ true = rw is at parted in
    ap not (neither (is_word_part c) _ h).0

word_lexes : (word rest : List ℕ) (ts : List Token) → is_word word ≡ true → is_parted (last_behind 0 word) rest ≡ true → Lexes rest ts → Lexes (word ++ rest) (Word word ∷ ts)
word_lexes [] rest ts is parted behind = absurd (false≢true is)
word_lexes (c ∷ cs) rest ts is parted behind =
    let both = both_pass (is_ascii_alphabetic c) (list_all is_word_part cs) is in
    lexes_word (c ∷ cs) rest ts is (ends_behind (last_behind c cs) rest (last_is_part c cs (letter_is_part c both.0) both.1) parted) behind

-- ---- numbers

digits : IsNumeralModel (λ ds. all_ascii_digits ds ≡ true) (digits_value 10)
digits = numerals_by_value (λ ds. all_ascii_digits ds ≡ true) tells_all_ascii_digits

digit_range : (c : ℕ) → is_ascii_digit c ≡ true → (48 ≤ c) × (c ≤ 57)
digit_range c is = (grind (arith, nat_tests), grind (arith, nat_tests))

digit_is_part : (c : ℕ) → is_ascii_digit c ≡ true → is_word_part c ≡ true
digit_is_part c is = grind (arith, nat_tests)

no_letter : (c : ℕ) → is_ascii_digit c ≡ true → is_ascii_alphabetic c ≡ false
no_letter c is = grind (arith, nat_tests)

other_than : (c d : ℕ) → is_ascii_digit c ≡ true → d < 48 → (c == d) ≡ false
other_than c d is low = let range = digit_range c is in ne_eqb c d (λ e. omega (arith, e, low, range.0))

no_digit : (c : ℕ) → is_word_part c ≡ false → is_ascii_digit c ≡ false
no_digit c is = by (is_ascii_digit c) refl
  where
    by : (digit : Bool) → is_ascii_digit c ≡ digit → digit ≡ false
    by true e = sym (digit_is_part c e) ∙ is
    by false e = refl

-- the front of digits ends with the number, where what is behind goes on with none
front_of_none : (rest : List ℕ) → ends_word rest ≡ true → prefix_len is_ascii_digit rest ≡ 0
front_of_none [] ends = refl
front_of_none (c ∷ rest) ends = by (is_word_part c) refl ends
  where
    by : (part : Bool) → is_word_part c ≡ part → not part ≡ true → cond (is_ascii_digit c) (1 + prefix_len is_ascii_digit rest) 0 ≡ 0
    by true e h = absurd (false≢true h)
    by false e h = rw (no_digit c e) refl

front_of : (ds rest : List ℕ) → list_all is_ascii_digit ds ≡ true → ends_word rest ≡ true → prefix_len is_ascii_digit (ds ++ rest) ≡ length ds
front_of [] rest all ends = front_of_none rest ends
front_of (c ∷ ds) rest all ends =
    let both = both_pass (is_ascii_digit c) (list_all is_ascii_digit ds) all in
    rw (both.0, one-add) (ap suc (front_of ds rest both.1 ends))

last_is_digit : (c : ℕ) (cs : List ℕ) → is_ascii_digit c ≡ true → list_all is_ascii_digit cs ≡ true → is_ascii_digit (last_behind c cs) ≡ true
last_is_digit c [] is all = is
last_is_digit c (d ∷ cs) is all =
    let both = both_pass (is_ascii_digit d) (list_all is_ascii_digit cs) all in
    last_is_digit d cs both.0 both.1

-- a test that is passed chooses the first of two
chosen : {A : Type 0} (test : Bool) (a b c : A) → test ≡ true → a ≡ c → cond test a b ≡ c
chosen true a b c is e = e
chosen false a b c is e = absurd (false≢true is)

passed_by : {A : Type 0} (test : Bool) (a b c : A) → test ≡ false → b ≡ c → cond test a b ≡ c
passed_by true a b c is e = absurd (false≢true (sym is))
passed_by false a b c is e = e

number_first : (c : ℕ) (cs rest : List ℕ) (n : ℕ) → list_all is_ascii_digit (c ∷ cs) ≡ true → ends_word rest ≡ true → digits_value 10 (c ∷ cs) ≡ n → n ≤ 9223372036854775807
    → first_item (c ∷ cs ++ rest) ≡ item.Spelled (Number (pos n)) (length (c ∷ cs))
number_first c cs rest n all ends value small =
    let both = both_pass (is_ascii_digit c) (list_all is_ascii_digit cs) all in
    let front : take_while is_ascii_digit (c ∷ cs ++ rest) ≡ c ∷ cs =
    ap (λ k. take k (c ∷ cs ++ rest)) (front_of (c ∷ cs) rest all ends) ∙ take_at (c ∷ cs) rest (length (c ∷ cs)) refl in
    let fits : nat_le n 9223372036854775807 ≡ true = grind (arith, nat_tests) in
    let separates : is_separator c ≡ false = rw (other_than c 32 both.0 (omega arith), other_than c 9 both.0 (omega arith), other_than c 13 both.0 (omega arith), other_than c 10 both.0 (omega arith)) refl in
    passed_by (is_separator c) _ _ _ separates
    (passed_by (is_hash c) _ _ _ (other_than c 35 both.0 (omega arith))
    (passed_by (is_ascii_alphabetic c) _ _ _ (no_letter c both.0)
    (chosen (is_ascii_digit c) _ _ _ both.0
    (ap number_item front ∙ chosen (nat_le (digits_value 10 (c ∷ cs)) 9223372036854775807) _ _ _ (ap (λ v. nat_le v 9223372036854775807) value ∙ fits) (ap (λ v. item.Spelled (Number (pos v)) (length (c ∷ cs))) value)))))

digits_lex : (ds rest : List ℕ) (ts : List Token) (n : ℕ) → list_all is_ascii_digit ds ≡ true → 0 < length ds → digits_value 10 ds ≡ n → n ≤ 9223372036854775807
    → is_parted (last_behind 0 ds) rest ≡ true → Lexes rest ts → Lexes (ds ++ rest) (Number (pos n) ∷ ts)
digits_lex [] rest ts n all some value small parted behind = absurd (omega (arith, some))
digits_lex (c ∷ cs) rest ts n all some value small parted behind =
    let both = both_pass (is_ascii_digit c) (list_all is_ascii_digit cs) all in
    let ends = ends_behind (last_behind c cs) rest (digit_is_part (last_behind c cs) (last_is_digit c cs both.0 both.1)) parted in
    lexes_token (c ∷ cs) rest (length (c ∷ cs)) (Number (pos n)) ts refl some (number_first c cs rest n all ends value small) behind

pub decimal_digits : (n : ℕ) → n ≤ 9223372036854775807 → list_all is_ascii_digit (decimal n) ≡ true
decimal_digits n small = digits.from (decimal n) (decimal_is_IsNumeral n (omega (arith, small))).0.1

pub decimal_some : (n : ℕ) → n ≤ 9223372036854775807 → 0 < length (decimal n)
decimal_some n small = decimal_nonempty n (omega (arith, small))

number_lexes : (n : ℕ) (rest : List ℕ) (ts : List Token) → n ≤ 9223372036854775807 → is_parted (last_behind 0 (decimal n)) rest ≡ true → Lexes rest ts
    → Lexes (decimal n ++ rest) (Number (pos n) ∷ ts)
number_lexes n rest ts small parted behind =
    digits_lex (decimal n) rest ts n (decimal_digits n small) (decimal_some n small) (decimal_is_IsNumeral n (omega (arith, small))).1 small parted behind

-- ---- texts

plain_step : (c : ℕ) (xs : List ℕ) (y : ℕ) (ys : List ℕ) → (c == 34) ≡ false → (c == 92) ≡ false → body_of 34 (c ∷ (xs ++ y ∷ ys)) ≡ byte_before c 1 (body_of 34 (xs ++ y ∷ ys))
unfolding body_of
plain_step c [] y ys quote slash = rw (quote, slash) refl
plain_step c (x ∷ xs) y ys quote slash = rw (quote, slash) refl

byte_closed : (c n m : ℕ) (text : List ℕ) (body : Body) → body ≡ Closed text m → byte_before c n body ≡ Closed (c ∷ text) (n + m)
byte_closed c n m text body is = ap (byte_before c n) is

body_closed : (text rest : List ℕ) → body_of 34 (flat_map escaped text ++ 34 ∷ rest) ≡ Closed text (length (flat_map escaped text) + 1)
unfolding body_of
body_closed [] [] = refl
body_closed [] (c ∷ rest) = refl
body_closed (c ∷ text) rest = by (c == 34) (c == 92) (c == 10) (c == 9) refl refl refl refl (body_closed text rest)
  where
    more_text : List ℕ
    more_text = flat_map escaped text

    after : List ℕ
    after = more_text ++ 34 ∷ rest

    two : (e : ℕ) → c ≡ e → body_of 34 after ≡ Closed text (length more_text + 1) → byte_before e 2 (body_of 34 after) ≡ Closed (c ∷ text) (suc (suc (length more_text)) + 1)
    two e is later =
        ap (byte_before e 2) later ∙ ap (λ b. Closed (b ∷ text) (2 + (length more_text + 1))) (sym is) ∙ ap (Closed (c ∷ text)) (omega arith)

    by : (quote slash feed tab : Bool) → (c == 34) ≡ quote → (c == 92) ≡ slash → (c == 10) ≡ feed → (c == 9) ≡ tab → body_of 34 (more_text ++ 34 ∷ rest) ≡ Closed text (length more_text + 1)
        → body_of 34 ((cond quote (92 ∷ 34 ∷ []) (cond slash (92 ∷ 92 ∷ []) (cond feed (92 ∷ 110 ∷ []) (cond tab (92 ∷ 116 ∷ []) (c ∷ [])))) ++ more_text) ++ 34 ∷ rest)
        ≡ Closed (c ∷ text) (length (cond quote (92 ∷ 34 ∷ []) (cond slash (92 ∷ 92 ∷ []) (cond feed (92 ∷ 110 ∷ []) (cond tab (92 ∷ 116 ∷ []) (c ∷ [])))) ++ more_text) + 1)
    by true slash feed tab q s f t later = two 34 (eqb-true c 34 q) later
    by false true feed tab q s f t later = two 92 (eqb-true c 92 s) later
    by false false true tab q s f t later = two 10 (eqb-true c 10 f) later
    by false false false true q s f t later = two 9 (eqb-true c 9 t) later
    by false false false false q s f t later =
        plain_step c more_text 34 rest q s ∙ ap (byte_before c 1) later ∙ ap (Closed (c ∷ text)) (omega arith)

text_lexes : (text rest : List ℕ) (ts : List Token) → Lexes rest ts → Lexes (quoted text ++ rest) (Text text ∷ ts)
text_lexes text rest ts behind =
    let front = flat_map escaped text in
    let first : first_item (34 ∷ ((front ++ 34 ∷ []) ++ rest)) ≡ item.Spelled (Text text) (1 + (length front + 1)) =
    ap (λ b. text_item (body_of 34 b)) (append_assoc front (34 ∷ []) rest) ∙ ap text_item (body_closed text rest) in
    lexes_token (quoted text) rest (1 + (length front + 1)) (Text text) ts (omega (arith, length-append front (34 ∷ []))) (omega arith) first behind

-- ---- symbols

not_growing : (c : ℕ) → not (c == 61 || c == 62) ≡ true → ((61 == c) ≡ false) × ((62 == c) ≡ false)
not_growing c h = (grind (arith, nat_tests), grind (arith, nat_tests))

colon_first : (rest : List ℕ) → is_parted 58 rest ≡ true → first_item (58 ∷ rest) ≡ item.Spelled (Symbol mark.Colon) 1
colon_first [] parted = refl
colon_first (c ∷ rest) parted = let tests = not_growing c parted in rw (tests.0) refl

less_first : (rest : List ℕ) → is_parted 60 rest ≡ true → first_item (60 ∷ rest) ≡ item.Spelled (Symbol mark.Less) 1
less_first [] parted = refl
less_first (c ∷ rest) parted = let tests = not_growing c parted in rw (tests.0, tests.1) refl

greater_first : (rest : List ℕ) → is_parted 62 rest ≡ true → first_item (62 ∷ rest) ≡ item.Spelled (Symbol mark.Greater) 1
greater_first [] parted = refl
greater_first (c ∷ rest) parted = let tests = not_growing c parted in rw (tests.0) refl

mark_first : (m : Mark) (rest : List ℕ) → is_parted (last_behind 0 (mark_text m)) rest ≡ true → first_item (mark_text m ++ rest) ≡ item.Spelled (Symbol m) (length (mark_text m))
mark_first mark.Assign rest parted = refl
mark_first mark.AtMost rest parted = refl
mark_first mark.AtLeast rest parted = refl
mark_first mark.Differs rest parted = refl
mark_first mark.Less rest parted = less_first rest parted
mark_first mark.Greater rest parted = greater_first rest parted
mark_first mark.Colon rest parted = colon_first rest parted
mark_first mark.OpenParenthesis rest parted = refl
mark_first mark.CloseParenthesis rest parted = refl
mark_first mark.OpenBracket rest parted = refl
mark_first mark.CloseBracket rest parted = refl
mark_first mark.OpenBrace rest parted = refl
mark_first mark.CloseBrace rest parted = refl
mark_first mark.Comma rest parted = refl
mark_first mark.Semicolon rest parted = refl
mark_first mark.Dot rest parted = refl
mark_first mark.Equals rest parted = refl
mark_first mark.Plus rest parted = refl
mark_first mark.Minus rest parted = refl
mark_first mark.Star rest parted = refl
mark_first mark.Slash rest parted = refl
mark_first mark.Percent rest parted = refl
mark_first mark.Bar rest parted = refl
mark_first mark.Bang rest parted = refl
mark_first mark.Tilde rest parted = refl
mark_first mark.AtSign rest parted = refl
mark_first mark.LowLine rest parted = refl

mark_long : (m : Mark) → 0 < length (mark_text m)
mark_long mark.Assign = omega arith
mark_long mark.AtMost = omega arith
mark_long mark.AtLeast = omega arith
mark_long mark.Differs = omega arith
mark_long mark.Less = omega arith
mark_long mark.Greater = omega arith
mark_long mark.Colon = omega arith
mark_long mark.OpenParenthesis = omega arith
mark_long mark.CloseParenthesis = omega arith
mark_long mark.OpenBracket = omega arith
mark_long mark.CloseBracket = omega arith
mark_long mark.OpenBrace = omega arith
mark_long mark.CloseBrace = omega arith
mark_long mark.Comma = omega arith
mark_long mark.Semicolon = omega arith
mark_long mark.Dot = omega arith
mark_long mark.Equals = omega arith
mark_long mark.Plus = omega arith
mark_long mark.Minus = omega arith
mark_long mark.Star = omega arith
mark_long mark.Slash = omega arith
mark_long mark.Percent = omega arith
mark_long mark.Bar = omega arith
mark_long mark.Bang = omega arith
mark_long mark.Tilde = omega arith
mark_long mark.AtSign = omega arith
mark_long mark.LowLine = omega arith

pub mark_lexes : (m : Mark) (rest : List ℕ) (ts : List Token) → is_parted (last_behind 0 (mark_text m)) rest ≡ true → Lexes rest ts → Lexes (mark_text m ++ rest) (Symbol m ∷ ts)
mark_lexes m rest ts parted behind = lexes_token (mark_text m) rest (length (mark_text m)) (Symbol m) ts refl (mark_long m) (mark_first m rest parted) behind

-- ---- tokens

-- bytes begin with one that is no white space
pub record Front (text : List ℕ) : Type 0 where
  pub byte : ℕ
  pub bytes : List ℕ
  pub is : text ≡ byte ∷ bytes
  pub dense : is_separator byte ≡ false

letter_front : (c : ℕ) → is_ascii_alphabetic c ≡ true → is_separator c ≡ false
letter_front c is = grind (arith, nat_tests)

digit_front : (c : ℕ) → is_ascii_digit c ≡ true → is_separator c ≡ false
digit_front c is = grind (arith, nat_tests)

word_front : (word : List ℕ) → is_word word ≡ true → Front word
word_front [] is = absurd (false≢true is)
word_front (c ∷ cs) is = record { byte = c; bytes = cs; is = refl; dense = letter_front c (both_pass (is_ascii_alphabetic c) (list_all is_word_part cs) is).0 }

digits_front : (ds : List ℕ) → list_all is_ascii_digit ds ≡ true → 0 < length ds → Front ds
digits_front [] is some = absurd (omega (arith, some))
digits_front (c ∷ cs) is some = record { byte = c; bytes = cs; is = refl; dense = digit_front c (both_pass (is_ascii_digit c) (list_all is_ascii_digit cs) is).0 }

mark_front : (m : Mark) → Front (mark_text m)
mark_front mark.Assign = record { byte = 58; bytes = 61 ∷ []; is = refl; dense = refl }
mark_front mark.AtMost = record { byte = 60; bytes = 61 ∷ []; is = refl; dense = refl }
mark_front mark.AtLeast = record { byte = 62; bytes = 61 ∷ []; is = refl; dense = refl }
mark_front mark.Differs = record { byte = 60; bytes = 62 ∷ []; is = refl; dense = refl }
mark_front mark.Less = record { byte = 60; bytes = []; is = refl; dense = refl }
mark_front mark.Greater = record { byte = 62; bytes = []; is = refl; dense = refl }
mark_front mark.Colon = record { byte = 58; bytes = []; is = refl; dense = refl }
mark_front mark.OpenParenthesis = record { byte = 40; bytes = []; is = refl; dense = refl }
mark_front mark.CloseParenthesis = record { byte = 41; bytes = []; is = refl; dense = refl }
mark_front mark.OpenBracket = record { byte = 91; bytes = []; is = refl; dense = refl }
mark_front mark.CloseBracket = record { byte = 93; bytes = []; is = refl; dense = refl }
mark_front mark.OpenBrace = record { byte = 123; bytes = []; is = refl; dense = refl }
mark_front mark.CloseBrace = record { byte = 125; bytes = []; is = refl; dense = refl }
mark_front mark.Comma = record { byte = 44; bytes = []; is = refl; dense = refl }
mark_front mark.Semicolon = record { byte = 59; bytes = []; is = refl; dense = refl }
mark_front mark.Dot = record { byte = 46; bytes = []; is = refl; dense = refl }
mark_front mark.Equals = record { byte = 61; bytes = []; is = refl; dense = refl }
mark_front mark.Plus = record { byte = 43; bytes = []; is = refl; dense = refl }
mark_front mark.Minus = record { byte = 45; bytes = []; is = refl; dense = refl }
mark_front mark.Star = record { byte = 42; bytes = []; is = refl; dense = refl }
mark_front mark.Slash = record { byte = 47; bytes = []; is = refl; dense = refl }
mark_front mark.Percent = record { byte = 37; bytes = []; is = refl; dense = refl }
mark_front mark.Bar = record { byte = 124; bytes = []; is = refl; dense = refl }
mark_front mark.Bang = record { byte = 33; bytes = []; is = refl; dense = refl }
mark_front mark.Tilde = record { byte = 126; bytes = []; is = refl; dense = refl }
mark_front mark.AtSign = record { byte = 64; bytes = []; is = refl; dense = refl }
mark_front mark.LowLine = record { byte = 95; bytes = []; is = refl; dense = refl }

pub token_front : (t : Token) → IsWritable t → Front (spelled t)
unfolding spelled
token_front (Word word) is = word_front word is
token_front (Number (pos n)) is = digits_front (decimal n) (decimal_digits n is) (decimal_some n is)
token_front (Number (negsuc n)) is = absurd is
token_front (Text text) is = record { byte = 34; bytes = flat_map escaped text ++ 34 ∷ []; is = refl; dense = refl }
token_front (Symbol m) is = mark_front m

pub token_lexes : (t : Token) (rest : List ℕ) (ts : List Token) → IsWritable t → is_parted (last_behind 0 (spelled t)) rest ≡ true → Lexes rest ts → Lexes (spelled t ++ rest) (t ∷ ts)
unfolding spelled
token_lexes (Word word) rest ts is parted behind = word_lexes word rest ts is parted behind
token_lexes (Number (pos n)) rest ts is parted behind = number_lexes n rest ts is parted behind
token_lexes (Number (negsuc n)) rest ts is parted behind = absurd is
token_lexes (Text text) rest ts is parted behind = text_lexes text rest ts behind
token_lexes (Symbol m) rest ts is parted behind = mark_lexes m rest ts parted behind
