-- The texts of pieces are UTF-8.
use Rattle.std.proofs.Common.{◌≡◌, ℕ, zero, suc, ◌+◌, ◌<◌, ◌≤◌, Bool, true, false, List, [], ◌∷◌, ◌++◌, length, replicate, refl, sym, ap, subst, ◌∙◌, arith, cond, pos, negsuc}
use Rattle.std.proofs.Common.{◌&&◌, nat_lt, get_or, inl, inr, ap₂, append_assoc, append-nil, ltb-true, ne_eqb}
use Rattle.std.proofs.lemmas.Bool.{and_parts, cases_lt, cases_eq}
use lib.Utf8.{scalar, scalars, encode, encodes}
use Rattle.std.specs.List.{flat_map}
use Rattle.std.specs.Str.{IsUtf8}
use Rattle.std.specs.Prelude.{decimal}
use Rattle.std.proofs.lemmas.Fmt.{IsAscii-decimal}
use Rattle.std.proofs.lemmas.Str.{IsUtf8-from_ascii, IsUtf8-append, IsUtf8-from_is_utf8, IsUtf8-nil, IsUtf8-encode, encode_ascii, inside_one}
use Rattle.std.proofs.lemmas.Str.Ascii.{IsAscii-nil, IsAscii-cons}
use Rattle.gc_base.proofs.WordLaws.{word_ascii}
use Rattle.gc_lex.specs.declared.token.Token.{Token}
use Rattle.gc_lex.specs.declared.token.Token.TheVariants.{Word, Number, Text, Symbol}
use Rattle.gc_lex.specs.declared.token.Mark.{Mark}
use Rattle.gc_lex.specs.declared.token.Mark.TheVariants as mark
use Rattle.gc_print.specs.RegexTexts.{regex_text}
use Rattle.gc_print.proofs.AsciiTexts.{text_utf8}
use Rattle.gc_print_query.specs.Pieces.{Piece, Blank, Line, Lexeme, Angled, is_opening, run_together, apart, piece_text, last_behind}
use Rattle.gc_print_query.specs.Tokens.{IsWritable}
use Rattle.gc_print_query.specs.TokenTexts.{mark_text, escaped, spelled}
use Rattle.gc_print_query.proofs.LexedPieces.{IsSound, AreSound, spaced}

one_utf8 : (c : ℕ) → c < 128 → IsUtf8 (c ∷ [])
one_utf8 c low = IsUtf8-from_ascii (c ∷ []) (IsAscii-cons c [] low IsAscii-nil)

byte_before : (c : ℕ) (text : List ℕ) → c < 128 → IsUtf8 text → IsUtf8 (c ∷ text)
byte_before c text low utf8 = IsUtf8-append (c ∷ []) text (one_utf8 c low) utf8

abbrev are_ascii : List ℕ → Bool
are_ascii [] = true
are_ascii (x ∷ xs) = nat_lt x 128 && are_ascii xs

ascii_utf8 : (xs : List ℕ) → are_ascii xs ≡ true → IsUtf8 xs
ascii_utf8 [] e = IsUtf8-nil
ascii_utf8 (x ∷ xs) e = let p = and_parts _ _ e in byte_before x xs (ltb-true _ _ p.0) (ascii_utf8 xs p.1)

-- the escapes of the bytes below n are ASCII
abbrev escapes_below : ℕ → Bool
escapes_below zero = true
escapes_below (suc n) = are_ascii (escaped n) && escapes_below n

escape_below : (n : ℕ) → escapes_below n ≡ true → (x : ℕ) → x < n → are_ascii (escaped x) ≡ true
escape_below zero e x h = absurd (omega arith)
escape_below (suc n) e x h =
    let p = and_parts _ _ e in
    elim (cases_eq x n) [ inl same ↦ rw same p.0 | inr other ↦ escape_below n p.1 x (omega arith) ]

all_ascii : escapes_below 128 ≡ true
all_ascii = refl

escape_append : (xs ys : List ℕ) → flat_map escaped (xs ++ ys) ≡ flat_map escaped xs ++ flat_map escaped ys
escape_append [] ys = refl
escape_append (x ∷ xs) ys = ap (λ l. escaped x ++ l) (escape_append xs ys) ∙ sym (append_assoc (escaped x) _ _)

escaped_high : (x : ℕ) → 128 ≤ x → escaped x ≡ x ∷ []
escaped_high x high =
    rw (ne_eqb x 34 (λ e. omega (arith, e, high)), ne_eqb x 92 (λ e. omega (arith, e, high)), ne_eqb x 10 (λ e. omega (arith, e, high)), ne_eqb x 9 (λ e. omega (arith, e, high))) refl

escape_high : (xs : List ℕ) → ((k : ℕ) → k < length xs → 128 ≤ get_or xs k 0) → flat_map escaped xs ≡ xs
escape_high [] h = refl
escape_high (x ∷ xs) h =
    let high : 128 ≤ x = h 0 (omega arith) in
    ap₂ (λ (a b : List ℕ). a ++ b) (escaped_high x high) (escape_high xs (λ k below. h (suc k) (omega arith)))

one_char : (c : ℕ) → scalar c ≡ true → IsUtf8 (flat_map escaped (encode c))
one_char c ok = elim (cases_lt c 128) [
  | inl small ↦ rw (encode_ascii c small, append-nil) (ascii_utf8 _ (escape_below 128 all_ascii c small))
  | inr big ↦
      let high : (k : ℕ) → k < length (encode c) → 128 ≤ get_or (encode c) k 0 = λ k below. elim (cases_lt (get_or (encode c) k 0) 128) [
        | inl low ↦ absurd (omega (arith, inside_one c [] (encode c) k (sym (append-nil _)) below low))
        | inr h ↦ h
      ] in
      subst IsUtf8 (sym (escape_high (encode c) high)) (IsUtf8-encode c ok)
]

all_chars : (cs : List ℕ) → scalars cs ≡ true → IsUtf8 (flat_map escaped (encodes cs))
all_chars [] e = IsUtf8-nil
all_chars (c ∷ cs) e =
    let p = and_parts (scalar c) (scalars cs) e in
    rw (escape_append (encode c) (encodes cs)) (IsUtf8-append _ _ (one_char c p.0) (all_chars cs p.1))

escaped_utf8 : (text : List ℕ) → IsUtf8 text → IsUtf8 (flat_map escaped text)
escaped_utf8 text utf8 = subst (λ t. IsUtf8 (flat_map escaped t)) utf8.1.1 (all_chars utf8.0 utf8.1.0)

mark_utf8 : (m : Mark) → IsUtf8 (mark_text m)
mark_utf8 mark.Assign = byte_before 58 (61 ∷ []) (omega arith) (one_utf8 61 (omega arith))
mark_utf8 mark.AtMost = byte_before 60 (61 ∷ []) (omega arith) (one_utf8 61 (omega arith))
mark_utf8 mark.AtLeast = byte_before 62 (61 ∷ []) (omega arith) (one_utf8 61 (omega arith))
mark_utf8 mark.Differs = byte_before 60 (62 ∷ []) (omega arith) (one_utf8 62 (omega arith))
mark_utf8 mark.OpenParenthesis = one_utf8 40 (omega arith)
mark_utf8 mark.CloseParenthesis = one_utf8 41 (omega arith)
mark_utf8 mark.OpenBracket = one_utf8 91 (omega arith)
mark_utf8 mark.CloseBracket = one_utf8 93 (omega arith)
mark_utf8 mark.OpenBrace = one_utf8 123 (omega arith)
mark_utf8 mark.CloseBrace = one_utf8 125 (omega arith)
mark_utf8 mark.Less = one_utf8 60 (omega arith)
mark_utf8 mark.Greater = one_utf8 62 (omega arith)
mark_utf8 mark.Comma = one_utf8 44 (omega arith)
mark_utf8 mark.Semicolon = one_utf8 59 (omega arith)
mark_utf8 mark.Colon = one_utf8 58 (omega arith)
mark_utf8 mark.Dot = one_utf8 46 (omega arith)
mark_utf8 mark.Equals = one_utf8 61 (omega arith)
mark_utf8 mark.Plus = one_utf8 43 (omega arith)
mark_utf8 mark.Minus = one_utf8 45 (omega arith)
mark_utf8 mark.Star = one_utf8 42 (omega arith)
mark_utf8 mark.Slash = one_utf8 47 (omega arith)
mark_utf8 mark.Percent = one_utf8 37 (omega arith)
mark_utf8 mark.Bar = one_utf8 124 (omega arith)
mark_utf8 mark.Bang = one_utf8 33 (omega arith)
mark_utf8 mark.Tilde = one_utf8 126 (omega arith)
mark_utf8 mark.AtSign = one_utf8 64 (omega arith)
mark_utf8 mark.LowLine = one_utf8 95 (omega arith)

token_utf8 : (t : Token) → IsWritable t → IsUtf8 (spelled t)
unfolding spelled
token_utf8 (Word word) is = IsUtf8-from_ascii word (word_ascii word is)
token_utf8 (Number (pos n)) is = IsUtf8-from_ascii (decimal n) (IsAscii-decimal n (omega (arith, is)))
token_utf8 (Number (negsuc n)) is = absurd is
token_utf8 (Text text) is = byte_before 34 (flat_map escaped text ++ 34 ∷ []) (omega arith) (IsUtf8-append (flat_map escaped text) (34 ∷ []) (escaped_utf8 text is) (one_utf8 34 (omega arith)))
token_utf8 (Symbol m) is = mark_utf8 m

apart_utf8 : (last : ℕ) (text : List ℕ) → IsUtf8 text → IsUtf8 (apart last text)
apart_utf8 last [] utf8 = utf8
apart_utf8 last (c ∷ text) utf8 = by (run_together last c)
  where
    by : (together : Bool) → IsUtf8 (cond together (32 ∷ c ∷ text) (c ∷ text))
    by true = byte_before 32 (c ∷ text) (omega arith) utf8
    by false = utf8

blank_utf8 : (opens : Bool) → IsUtf8 (cond opens [] (32 ∷ []))
blank_utf8 true = IsUtf8-nil
blank_utf8 false = one_utf8 32 (omega arith)

spaces_utf8 : (n : ℕ) → IsUtf8 (replicate n 32)
spaces_utf8 zero = IsUtf8-nil
spaces_utf8 (suc n) = byte_before 32 (replicate n 32) (omega arith) (spaces_utf8 n)

piece_utf8 : (last : ℕ) (piece : Piece) → IsSound piece → IsUtf8 (piece_text last piece)
piece_utf8 last Blank is = blank_utf8 (is_opening last)
piece_utf8 last (Line depth) is = byte_before 10 (replicate (depth + depth) 32) (omega arith) (spaces_utf8 (depth + depth))
piece_utf8 last (Lexeme token) is = apart_utf8 last (spelled token) (token_utf8 token is)
piece_utf8 last (Angled tree) is =
    byte_before 60 (regex_text tree ++ 62 ∷ []) (omega arith)
    (IsUtf8-append (regex_text tree) (62 ∷ []) (IsUtf8-from_is_utf8 (regex_text tree) (text_utf8 tree is)) (one_utf8 62 (omega arith)))

pub sound_utf8 : (pieces : List Piece) → AreSound pieces → (last : ℕ) → IsUtf8 (spaced last pieces)
unfolding spaced
sound_utf8 [] sound last = IsUtf8-nil
sound_utf8 (piece ∷ pieces) sound last =
    IsUtf8-append (piece_text last piece) (spaced (last_behind last (piece_text last piece)) pieces) (piece_utf8 last piece sound.0) (sound_utf8 pieces sound.1 (last_behind last (piece_text last piece)))
