-- The tokens of a text can be written.
use Rattle.std.proofs.Common.{◌≡◌, ℕ, zero, suc, ◌+◌, ◌<◌, ◌≤◌, Bool, true, false, not, ◌==◌, ◌&&◌, List, [], ◌∷◌, ◌++◌, length, take, drop, Result, Ok, Err, Option, Some, None, pos, refl, sym, ap, subst, ◌∙◌, arith, cond, get_or, nat_eq, nat_le, nat_lt, ltb-true, inl, inr, ne_eqb, append-nil, drop-drop}
use Rattle.std.specs.Char.{is_ascii_alphabetic, is_ascii_digit}
use Rattle.std.specs.List.{before_first, take_while, prefix_len, starts_with, list_all}
use Rattle.std.specs.Str.{IsUtf8, is_utf8}
use Rattle.std.specs.Str.Lossy.{utf8_valid_len}
use Rattle.std.specs.Str.Parse.{digits_value}
use Rattle.std.proofs.lemmas.Bool.{false≢true, and_parts, cases_lt, eqb-true}
use Rattle.std.proofs.lemmas.Bool.Decides.{nat_tests}
use Rattle.std.proofs.lemmas.List.{drop_at, drop_all, length-take-le}
use Rattle.std.proofs.lemmas.List.Sums.{prefix_len_stops, prefix_len-le-length}
use Rattle.std.specs.Cmp.Lexicographic.{pointwise}
use Rattle.std.proofs.lemmas.Str.{IsUtf8-append, IsUtf8-nil, IsUtf8-encode, IsUtf8-from_is_utf8, IsUtf8-past_char, encode_ascii, inside_one, char_from_byte, IsUtf8-drop, IsCharBoundary-before_ascii}
use lib.Utf8.{scalar, scalars, encode, encodes, low_scalar}
use Rattle.gc_base.specs.Words.{is_word_part}
use Rattle.gc_base.specs.declared.place.Place.{Place}
use Rattle.gc_lex.specs.declared.token.Token.{Token}
use Rattle.gc_lex.specs.declared.token.Token.TheVariants.{Number}
use Rattle.gc_lex.specs.declared.token.Mark.{Mark}
use Rattle.gc_lex.specs.declared.items.Item.{Item}
use Rattle.gc_lex.specs.declared.items.Item.TheVariants as item
use Rattle.gc_lex.specs.Characters.{is_separator, is_line_feed, is_hash, is_quote}
use Rattle.gc_lex.specs.Contents.{Body, Closed, BadEscape, Unclosed, body_of, byte_before, escape_before, escape_of}
use Rattle.gc_lex.specs.Stops.{run_before}
use Rattle.gc_lex.specs.Items.{first_item, item_of, word_item, number_item, text_item, symbol_item}
use Rattle.gc_lex.specs.Lexis.{TokenList, after_tokens, after_item, tokens_within, lexed}
use Rattle.gc_lex.specs.Places.{place_at}
use Rattle.gc_lex.specs.Symbols.{symbols, entry_of}
use Rattle.gc_lex.specs.declared.refusal.LexRefusal.{LexRefusal}
use Rattle.gc_lex.specs.declared.refusal.LexRefusal.TheVariants.{NotUtf8}
use Rattle.gc_lex.proofs.WordFronts.{word_front}
use Rattle.gc_lex.proofs.Bodies.{quote_ascii}
use Rattle.gc_print_query.specs.Tokens.{IsWritable, AreWritable}

-- what is left behind an ASCII byte
ascii_tail : (c : ℕ) (xs : List ℕ) → c < 128 → IsUtf8 (c ∷ xs) → IsUtf8 xs
ascii_tail c xs low utf8 = IsUtf8-past_char (c ∷ xs) xs c utf8 (sym (ap (λ e. e ++ xs) (encode_ascii c low)))

ascii_front : (c : ℕ) (xs : List ℕ) → c < 128 → IsUtf8 xs → IsUtf8 (c ∷ xs)
ascii_front c xs low utf8 = IsUtf8-append (c ∷ []) xs (subst IsUtf8 (encode_ascii c low) (IsUtf8-encode c (low_scalar c (omega (arith, low))))) utf8

-- ---- between quotes

-- the contents of a text, and what is behind its closing quote
GoodBody : List ℕ → Body → Type 0
GoodBody xs (Closed contents n) = IsUtf8 contents × IsUtf8 (drop n xs)
GoodBody xs (BadEscape n) = Unit {0}
GoodBody xs Unclosed = Unit {0}

good_byte : (c : ℕ) (xs : List ℕ) (body : Body) → c < 128 → GoodBody xs body → GoodBody (c ∷ xs) (byte_before c 1 body)
unfolding GoodBody
good_byte c xs (Closed contents n) low good = (ascii_front c contents low good.0, subst (λ k. IsUtf8 (drop k (c ∷ xs))) (let h : suc n ≡ 1 + n = omega arith in h) good.1)
good_byte c xs (BadEscape n) low good = tt
good_byte c xs Unclosed low good = tt

good_escape : (c d e : ℕ) (xs : List ℕ) (body : Body) → e < 128 → GoodBody xs body → GoodBody (c ∷ d ∷ xs) (byte_before e 2 body)
unfolding GoodBody
good_escape c d e xs (Closed contents n) low good = (ascii_front e contents low good.0, subst (λ k. IsUtf8 (drop k (c ∷ d ∷ xs))) (let h : suc (suc n) ≡ 2 + n = omega arith in h) good.1)
good_escape c d e xs (BadEscape n) low good = tt
good_escape c d e xs Unclosed low good = tt

good_run : (run xs : List ℕ) (body : Body) → IsUtf8 run → GoodBody xs body → GoodBody (run ++ xs) (run_before run (length run) body)
unfolding GoodBody
good_run run xs (Closed contents n) utf8 good =
    let behind : drop (length run + n) (run ++ xs) ≡ drop n xs = sym (drop-drop n (length run) (run ++ xs)) ∙ ap (drop n) (drop_at run xs (length run) refl) in
    (IsUtf8-append run contents utf8 good.0, subst IsUtf8 (sym behind) good.1)
good_run run xs (BadEscape n) utf8 good = tt
good_run run xs Unclosed utf8 good = tt

-- bytes that stand for themselves
plain_step : (quote c : ℕ) (xs : List ℕ) → (c == quote) ≡ false → (c == 92) ≡ false → body_of quote (c ∷ xs) ≡ byte_before c 1 (body_of quote xs)
unfolding body_of
plain_step quote c [] q s = rw (q) refl
plain_step quote c (d ∷ xs) q s = rw (q, s) refl

run_one : (c : ℕ) (run : List ℕ) (n : ℕ) (body : Body) → byte_before c 1 (run_before run n body) ≡ run_before (c ∷ run) (suc n) body
run_one c run n (Closed contents m) = ap (Closed (c ∷ (run ++ contents))) (omega arith)
run_one c run n (BadEscape m) = ap BadEscape (omega arith)
run_one c run n Unclosed = refl

run_none : (body : Body) → body ≡ run_before [] 0 body
run_none (Closed contents n) = ap (Closed contents) (omega arith)
run_none (BadEscape n) = ap BadEscape (omega arith)
run_none Unclosed = refl

high_run : (quote : ℕ) (run xs : List ℕ) → quote < 128 → ((k : ℕ) → k < length run → 128 ≤ get_or run k 0) → body_of quote (run ++ xs) ≡ run_before run (length run) (body_of quote xs)
high_run quote [] xs low high = run_none (body_of quote xs)
high_run quote (c ∷ run) xs low high =
    let here : 128 ≤ c = high 0 (omega arith) in
    plain_step quote c (run ++ xs) (ne_eqb c quote (λ e. omega (arith, e, here, low))) (ne_eqb c 92 (λ e. omega (arith, e, here)))
    ∙ ap (byte_before c 1) (high_run quote run xs low (λ k below. high (suc k) (omega arith)))
    ∙ run_one c run (length run) (body_of quote xs)

some_is : (a b : ℕ) → ◌≡◌ {A = Option ℕ} (Some a) (Some b) → a ≡ b
some_is a b is = cc

-- what an escape means is ASCII, and so is the byte that it is told by
escape_ascii : (d e : ℕ) → escape_of d ≡ Some e → (d < 128) × (e < 128)
escape_ascii d e is = by (d == 34) (d == 39) (d == 92) (d == 110) (d == 116) refl refl refl refl refl is
  where
    by : (a b f g h : Bool) → (d == 34) ≡ a → (d == 39) ≡ b → (d == 92) ≡ f → (d == 110) ≡ g → (d == 116) ≡ h
        → cond a (Some 34) (cond b (Some 39) (cond f (Some 92) (cond g (Some 10) (cond h (Some 9) None)))) ≡ Some e → (d < 128) × (e < 128)
    by true b f g h ea eb ef eg eh is = (omega (arith, eqb-true d 34 ea), omega (arith, some_is 34 e is))
    by false true f g h ea eb ef eg eh is = (omega (arith, eqb-true d 39 eb), omega (arith, some_is 39 e is))
    by false false true g h ea eb ef eg eh is = (omega (arith, eqb-true d 92 ef), omega (arith, some_is 92 e is))
    by false false false true h ea eb ef eg eh is = (omega (arith, eqb-true d 110 eg), omega (arith, some_is 10 e is))
    by false false false false true ea eb ef eg eh is = (omega (arith, eqb-true d 116 eh), omega (arith, some_is 9 e is))
    by false false false false false ea eb ef eg eh is = absurd (cc)

escaped_good : (c d : ℕ) (xs : List ℕ) (body : Body) (meaning : Option ℕ) → escape_of d ≡ meaning → (d < 128 → GoodBody xs body) → GoodBody (c ∷ d ∷ xs) (escape_before meaning body)
unfolding GoodBody
escaped_good c d xs body None is good = tt
escaped_good c d xs body (Some e) is good = good_escape c d e xs body (escape_ascii d e is).1 (good (escape_ascii d e is).0)

quote_closes : (quote c : ℕ) (xs : List ℕ) → (c == quote) ≡ true → body_of quote (c ∷ xs) ≡ Closed [] 1
unfolding body_of
quote_closes quote c [] is = rw is refl
quote_closes quote c (d ∷ xs) is = rw is refl

backslash_last : (quote c : ℕ) → (c == quote) ≡ false → body_of quote (c ∷ []) ≡ Unclosed
unfolding body_of
backslash_last quote c is = rw is refl

backslash_escapes : (quote c d : ℕ) (ys : List ℕ) → (c == quote) ≡ false → (c == 92) ≡ true → body_of quote (c ∷ d ∷ ys) ≡ escape_before (escape_of d) (body_of quote ys)
unfolding body_of
backslash_escapes quote c d ys q s = rw (q, s) refl

-- behind a byte that is ASCII
ascii_good : (quote c : ℕ) (xs : List ℕ) → c < 128 → IsUtf8 xs → GoodBody xs (body_of quote xs) → ((d : ℕ) (ys : List ℕ) → xs ≡ d ∷ ys → d < 128 → GoodBody ys (body_of quote ys))
    → GoodBody (c ∷ xs) (body_of quote (c ∷ xs))
unfolding GoodBody
ascii_good quote c xs low utf8 here later = by (c == quote) (c == 92) refl refl xs refl
  where
    by : (q s : Bool) → (c == quote) ≡ q → (c == 92) ≡ s → (ys : List ℕ) → xs ≡ ys → GoodBody (c ∷ xs) (body_of quote (c ∷ xs))
    by true s e f ys is = subst (GoodBody (c ∷ xs)) (sym (quote_closes quote c xs e)) (IsUtf8-nil, utf8)
    by false true e f [] is = subst (λ zs. GoodBody (c ∷ zs) (body_of quote (c ∷ zs))) (sym is) (subst (GoodBody (c ∷ [])) (sym (backslash_last quote c e)) tt)
    by false true e f (d ∷ ys) is =
        subst (λ zs. GoodBody (c ∷ zs) (body_of quote (c ∷ zs))) (sym is)
        (subst (GoodBody (c ∷ d ∷ ys)) (sym (backslash_escapes quote c d ys e f)) (escaped_good c d ys (body_of quote ys) (escape_of d) refl (later d ys is)))
    by false false e f ys is = subst (GoodBody (c ∷ xs)) (sym (plain_step quote c xs e f)) (good_byte c xs (body_of quote xs) low here)

-- the character that begins with an ASCII byte is that byte
head_char : (c : ℕ) (rest : List ℕ) (d : ℕ) (ys : List ℕ) → encode c ++ rest ≡ d ∷ ys → d < 128 → rest ≡ ys
head_char c rest d ys is low =
    let same : c ≡ d = char_from_byte (d ∷ ys) rest c (sym is) low (omega arith) in
    let front : encode c ≡ c ∷ [] = encode_ascii c (omega (arith, same, low)) in
    let whole : c ∷ rest ≡ d ∷ ys = sym (ap (λ e. e ++ rest) front) ∙ is in
    cc

all_utf8 : (cs : List ℕ) → scalars cs ≡ true → IsUtf8 (encodes cs)
all_utf8 cs ok = (cs, (ok, refl))

first_good : (quote c : ℕ) (cs : List ℕ) → quote < 128 → scalar c ≡ true → scalars cs ≡ true → GoodBody (encodes cs) (body_of quote (encodes cs))
    → ((d : ℕ) (ys : List ℕ) → encodes cs ≡ d ∷ ys → d < 128 → GoodBody ys (body_of quote ys)) → GoodBody (encode c ++ encodes cs) (body_of quote (encode c ++ encodes cs))
first_good quote c cs low ok oks here later = elim (cases_lt c 128) [
  | inl small ↦ rw (encode_ascii c small) (ascii_good quote c (encodes cs) small (all_utf8 cs oks) here later)
  | inr big ↦
      let high : (k : ℕ) → k < length (encode c) → 128 ≤ get_or (encode c) k 0 = λ k below. elim (cases_lt (get_or (encode c) k 0) 128) [
        | inl small ↦ absurd (omega (arith, inside_one c [] (encode c) k (sym (append-nil _)) below small))
        | inr h ↦ h
      ] in
      subst (GoodBody (encode c ++ encodes cs)) (sym (high_run quote (encode c) (encodes cs) low high)) (good_run (encode c) (encodes cs) (body_of quote (encodes cs)) (IsUtf8-encode c ok) here)
]

char_good : (quote : ℕ) (cs : List ℕ) → quote < 128 → scalars cs ≡ true → GoodBody (encodes cs) (body_of quote (encodes cs))
unfolding GoodBody body_of
char_good quote [] low ok = tt
char_good quote (c ∷ []) low ok = let p = and_parts _ _ ok in first_good quote c [] low p.0 refl tt (λ d ys is small. absurd (cc))
char_good quote (c ∷ e ∷ cs) low ok =
    let p = and_parts (scalar c) (scalars (e ∷ cs)) ok in
    let q = and_parts (scalar e) (scalars cs) p.1 in
    let later = char_good quote cs low q.1 in
    first_good quote c (e ∷ cs) low p.0 p.1 (char_good quote (e ∷ cs) low p.1)
    (λ d ys is small. subst (λ zs. GoodBody zs (body_of quote zs)) (head_char e (encodes cs) d ys is small) later)

body_good : (quote : ℕ) (xs : List ℕ) → quote < 128 → IsUtf8 xs → GoodBody xs (body_of quote xs)
body_good quote xs low utf8 = subst (λ zs. GoodBody zs (body_of quote zs)) utf8.1.1 (char_good quote utf8.0 low utf8.1.0)

-- ---- fronts

-- what is behind a run of ASCII bytes
run_good : (p : ℕ → Bool) → ((b : ℕ) → p b ≡ true → b < 128) → (xs : List ℕ) → IsUtf8 xs → IsUtf8 (drop (prefix_len p xs) xs)
run_good p low [] utf8 = IsUtf8-nil
run_good p low (c ∷ xs) utf8 = by (p c) refl (λ small. run_good p low xs (ascii_tail c xs small utf8))
  where
    by : (test : Bool) → p c ≡ test → (c < 128 → IsUtf8 (drop (prefix_len p xs) xs)) → IsUtf8 (drop (cond test (1 + prefix_len p xs) 0) (c ∷ xs))
    by true is later = subst (λ k. IsUtf8 (drop k (c ∷ xs))) (let h : suc (prefix_len p xs) ≡ 1 + prefix_len p xs = omega arith in h) (later (low c is))
    by false is later = utf8

feed_low : (b : ℕ) → not (b == 10) ≡ false → b < 128
feed_low b is = by (b == 10) refl is
  where
    by : (test : Bool) → (b == 10) ≡ test → not test ≡ false → b < 128
    by true e h = omega (arith, eqb-true b 10 e)
    by false e h = absurd (false≢true (sym h))

-- what is behind a comment
line_good : (xs : List ℕ) → IsUtf8 xs → IsUtf8 (drop (prefix_len (λ x. not (is_line_feed x)) xs) xs)
line_good xs utf8 = elim (cases_lt (prefix_len (λ x. not (is_line_feed x)) xs) (length xs)) [
  | inl within ↦
      let n = prefix_len (λ x. not (is_line_feed x)) xs in
      let stops : not (is_line_feed (get_or xs n 0)) ≡ false = prefix_len_stops (λ x. not (is_line_feed x)) xs 0 within in
      let feed : get_or xs n 0 < 128 = feed_low (get_or xs n 0) stops in
      IsUtf8-drop xs n utf8 (IsCharBoundary-before_ascii xs n within feed)
  | inr beyond ↦ subst IsUtf8 (sym (drop_all (prefix_len (λ x. not (is_line_feed x)) xs) xs beyond)) IsUtf8-nil
]

-- what is behind a symbol
are_ascii : List ℕ → Bool
are_ascii [] = true
are_ascii (x ∷ xs) = nat_lt x 128 && are_ascii xs

needle_good : (needle xs : List ℕ) → are_ascii needle ≡ true → pointwise nat_eq needle (take (length needle) xs) ≡ true → IsUtf8 xs → IsUtf8 (drop (length needle) xs)
unfolding are_ascii
needle_good [] xs ascii starts utf8 = utf8
needle_good (n ∷ needle) [] ascii starts utf8 = absurd (false≢true starts)
needle_good (n ∷ needle) (c ∷ xs) ascii starts utf8 =
    let a = and_parts (nat_lt n 128) (are_ascii needle) ascii in
    let s = and_parts (nat_eq n c) (pointwise nat_eq needle (take (length needle) xs)) starts in
    let small : n < 128 = ltb-true n 128 a.0 in
    needle_good needle xs a.1 s.1 (ascii_tail c xs (omega (arith, small, eqb-true n c s.0)) utf8)

GoodSymbol : List ℕ → Option (List ℕ × Mark) → Type 0
GoodSymbol xs None = Unit {0}
GoodSymbol xs (Some entry) = IsUtf8 (drop (length entry.0) xs)

entries_good : (entries : List (List ℕ × Mark)) (xs : List ℕ) → list_all (λ (e : List ℕ × Mark). are_ascii e.0) entries ≡ true → IsUtf8 xs → GoodSymbol xs (entry_of entries xs)
unfolding GoodSymbol
entries_good [] xs ascii utf8 = tt
entries_good (e ∷ entries) xs ascii utf8 =
    let a = and_parts (are_ascii e.0) (list_all (λ (e : List ℕ × Mark). are_ascii e.0) entries) ascii in
    by (starts_with nat_eq xs e.0) refl (entries_good entries xs a.1 utf8) a.0
  where
    by : (starts : Bool) → starts_with nat_eq xs e.0 ≡ starts → GoodSymbol xs (entry_of entries xs) → are_ascii e.0 ≡ true → GoodSymbol xs (cond starts (Some e) (entry_of entries xs))
    by true is later ascii = needle_good e.0 xs ascii is utf8
    by false is later ascii = later

all_ascii : list_all (λ (e : List ℕ × Mark). are_ascii e.0) symbols ≡ true
unfolding are_ascii
all_ascii = refl

-- ---- items

-- the token of an item can be written, and what is behind the item is UTF-8
GoodItem : List ℕ → Item → Type 0
GoodItem xs (item.Gap n) = IsUtf8 (drop n xs)
GoodItem xs (item.Spelled token n) = IsWritable token × IsUtf8 (drop n xs)
GoodItem xs other = Unit {0}

run_length : (p : ℕ → Bool) (xs : List ℕ) → length (take (prefix_len p xs) xs) ≡ prefix_len p xs
run_length p xs = length-take-le (prefix_len p xs) xs (prefix_len-le-length p xs)

part_low : (b : ℕ) → is_word_part b ≡ true → b < 128
part_low b is = grind (arith, nat_tests)

digit_low : (b : ℕ) → is_ascii_digit b ≡ true → b < 128
digit_low b is = grind (arith, nat_tests)

separator_low : (b : ℕ) → is_separator b ≡ true → b < 128
separator_low b is = grind (arith, nat_tests)

word_good : (c : ℕ) (cs : List ℕ) → is_ascii_alphabetic c ≡ true → IsUtf8 (c ∷ cs) → GoodItem (c ∷ cs) (word_item (take_while is_word_part (c ∷ cs)))
unfolding GoodItem
word_good c cs letter utf8 = (
  word_front (c ∷ cs) (prefix_len is_word_part (c ∷ cs)) letter refl,
  subst (λ n. IsUtf8 (drop n (c ∷ cs))) (sym (run_length is_word_part (c ∷ cs))) (run_good is_word_part part_low (c ∷ cs) utf8),
)

number_good : (xs : List ℕ) → IsUtf8 xs → GoodItem xs (number_item (take_while is_ascii_digit xs))
unfolding GoodItem
number_good xs utf8 = by (nat_le (digits_value 10 (take_while is_ascii_digit xs)) 9223372036854775807) refl
  where
    digits : List ℕ
    digits = take_while is_ascii_digit xs

    by : (fits : Bool) → nat_le (digits_value 10 digits) 9223372036854775807 ≡ fits → GoodItem xs (cond fits (item.Spelled (Number (pos (digits_value 10 digits))) (length digits)) item.NumberTooLarge)
    by true is = (grind (arith, nat_tests), subst (λ n. IsUtf8 (drop n xs)) (sym (run_length is_ascii_digit xs)) (run_good is_ascii_digit digit_low xs utf8))
    by false is = tt

text_good : (c : ℕ) (cs : List ℕ) (body : Body) → GoodBody cs body → GoodItem (c ∷ cs) (text_item body)
unfolding GoodItem GoodBody
text_good c cs (Closed contents n) good = (good.0, subst (λ k. IsUtf8 (drop k (c ∷ cs))) (let h : suc n ≡ 1 + n = omega arith in h) good.1)
text_good c cs (BadEscape n) good = tt
text_good c cs Unclosed good = tt

symbol_good : (xs : List ℕ) (entry : Option (List ℕ × Mark)) → GoodSymbol xs entry → GoodItem xs (symbol_item entry)
unfolding GoodItem GoodSymbol
symbol_good xs None good = tt
symbol_good xs (Some entry) good = (tt, good)

item_good : (c : ℕ) (cs : List ℕ) → IsUtf8 (c ∷ cs) → GoodItem (c ∷ cs) (item_of c (c ∷ cs))
unfolding GoodItem
item_good c cs utf8 = by (is_separator c) (is_hash c) (is_ascii_alphabetic c) refl (is_ascii_digit c) (is_quote c) refl
  where
    xs : List ℕ
    xs = c ∷ cs

    by : (separates hash letter : Bool) → is_ascii_alphabetic c ≡ letter → (digit quote : Bool) → is_quote c ≡ quote
        → GoodItem xs (cond separates (item.Gap (length (take_while is_separator xs))) (cond hash (item.Gap (length (before_first is_line_feed xs)))
        (cond letter (word_item (take_while is_word_part xs)) (cond digit (number_item (take_while is_ascii_digit xs))
        (cond quote (text_item (body_of c (drop 1 xs))) (symbol_item (entry_of symbols xs)))))))
    by true hash letter is digit quote q = subst (λ n. IsUtf8 (drop n xs)) (sym (run_length is_separator xs)) (run_good is_separator separator_low xs utf8)
    by false true letter is digit quote q = subst (λ n. IsUtf8 (drop n xs)) (sym (run_length (λ x. not (is_line_feed x)) xs)) (line_good xs utf8)
    by false false true is digit quote q = word_good c cs is utf8
    by false false false is true quote q = number_good xs utf8
    by false false false is false true q = let low = quote_ascii c q in text_good c cs (body_of c cs) (body_good c cs low (ascii_tail c cs low utf8))
    by false false false is false false q = symbol_good xs (entry_of symbols xs) (entries_good symbols xs all_ascii utf8)

first_item_good : (xs : List ℕ) → IsUtf8 xs → GoodItem xs (first_item xs)
unfolding GoodItem
first_item_good [] utf8 = tt
first_item_good (c ∷ cs) utf8 = item_good c cs utf8

-- ---- texts

GivesWritable : Result TokenList LexRefusal → Type 0
GivesWritable (Ok list) = AreWritable list.tokens
GivesWritable (Err refusal) = Unit {0}

after_writable : (token : Token) (place : Place) → IsWritable token → (rest : Result TokenList LexRefusal) → GivesWritable rest → GivesWritable (after_tokens (token ∷ []) (place ∷ []) rest)
unfolding GivesWritable AreWritable
after_writable token place is (Ok list) rest = (is, rest)
after_writable token place is (Err refusal) rest = tt

item_gives : (text : List ℕ) (at : ℕ) (rest : ℕ → Result TokenList LexRefusal) → ((n : ℕ) → IsUtf8 (drop n (drop at text)) → GivesWritable (rest (at + n))) → (found : Item) → GoodItem (drop at text) found
    → GivesWritable (after_item text at found rest)
unfolding GivesWritable GoodItem AreWritable
item_gives text at rest later item.End is = tt
item_gives text at rest later (item.Gap n) is = later n is
item_gives text at rest later (item.Spelled token n) is = after_writable token (place_at text at) is.0 (rest (at + n)) (later n is.1)
item_gives text at rest later (item.BadCharacter n) is = tt
item_gives text at rest later item.OpenText is = tt
item_gives text at rest later item.NumberTooLarge is = tt

within_writable : (items : ℕ) (text : List ℕ) (at : ℕ) → IsUtf8 (drop at text) → GivesWritable (tokens_within items text at)
unfolding GivesWritable tokens_within AreWritable
within_writable zero text at utf8 = tt
within_writable (suc items) text at utf8 =
    item_gives text at (tokens_within items text) (λ n behind. within_writable items text (at + n) (subst IsUtf8 (drop-drop n at text) behind)) (first_item (drop at text)) (first_item_good (drop at text) utf8)

pub lexed_writable : (text : List ℕ) (list : TokenList) → lexed text ≡ Ok list → AreWritable list.tokens
unfolding lexed GivesWritable
lexed_writable text list is = subst GivesWritable is (by (is_utf8 text) refl)
  where
    by : (valid : Bool) → is_utf8 text ≡ valid → GivesWritable (cond valid (tokens_within (length text) text 0) (Err (NotUtf8 (place_at text (utf8_valid_len text)))))
    by true e = within_writable (length text) text 0 (IsUtf8-from_is_utf8 text e)
    by false e = tt
