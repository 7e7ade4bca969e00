-- The texts of pieces have the tokens of the pieces.
use Rattle.std.proofs.Common.{◌≡◌, ℕ, zero, suc, ◌+◌, Bool, true, false, not, ◌&&◌, ◌||◌, ◌==◌, List, [], ◌∷◌, ◌++◌, length, take, replicate, refl, sym, ap, subst, ◌∙◌, arith, cond, one-add, append_assoc, map, codes}
use Rattle.std.specs.List.{AllByRecursion, list_all, prefix_len, take_while, join_with_byte}
use Rattle.std.proofs.lemmas.Bool.{false≢true}
use Rattle.std.proofs.lemmas.List.{append-nil, take_at}
use Rattle.gc_base.specs.Words.{is_word_part}
use Rattle.gc_lex.specs.declared.token.Token.{Token}
use Rattle.gc_lex.specs.declared.token.Token.TheVariants.{Symbol}
use Rattle.gc_lex.specs.declared.token.Mark.TheVariants as mark
use Rattle.gc_lex.specs.declared.items.Item.TheVariants as item
use Rattle.gc_lex.specs.Characters.{is_separator}
use Rattle.gc_lex.specs.Items.{first_item}
use Rattle.gc_regx.specs.Expressions.{IsExpression, IsFormed, IsLong}
use Rattle.gc_regx.specs.Trees.{Kind, RegexTree, ARegex, ARow, Label, Back, Any, AnyBack, Test, View, Cat, Alt, Star, none, more}
use Rattle.gc_print.specs.LooseTrees.{looseness_of}
use Rattle.gc_print.specs.RegexTexts.{Part, text_of, regex_text}
use Rattle.gc_print.specs.RegexTokens.{tokens_of}
use Rattle.gc_print.proofs.Lexing.{Lexes, lexes_end, lexes_gap}
use Rattle.gc_print.proofs.LexedTexts.{is_dense}
use Rattle.gc_print.proofs.LexedExpressions.{expression_lexes}
use Rattle.gc_print_query.specs.Pieces.{Piece, Blank, Line, Lexeme, Angled, is_opening, run_together, apart, piece_text, last_behind, with_piece, written}
use Rattle.gc_print_query.specs.Tokens.{tokens_in, IsWritable}
use Rattle.gc_print_query.specs.TokenTexts.{spelled}
use Rattle.gc_print_query.proofs.LexedTokens.{is_parted, token_lexes, mark_lexes, Front, token_front}

-- ---- a text piece by piece, from its front

unfoldable pub spaced : ℕ → List Piece → List ℕ
spaced last [] = []
spaced last (piece ∷ pieces) = piece_text last piece ++ spaced (last_behind last (piece_text last piece)) pieces

last_append : (last : ℕ) (xs ys : List ℕ) → last_behind last (xs ++ ys) ≡ last_behind (last_behind last xs) ys
last_append last [] ys = refl
last_append last (x ∷ xs) ys = last_append x xs ys

pub written_spaced : (text : List ℕ) (pieces : List Piece) → written text pieces ≡ text ++ spaced (last_behind 0 text) pieces
unfolding with_piece spaced
written_spaced text [] = sym (append-nil text)
written_spaced text (piece ∷ pieces) =
    let own = piece_text (last_behind 0 text) piece in
    written_spaced (text ++ own) pieces
    ∙ ap (λ last. (text ++ own) ++ spaced last pieces) (last_append 0 text own)
    ∙ append_assoc text own (spaced (last_behind (last_behind 0 text) own) pieces)

-- ---- pieces that can be written

abbrev pub IsSound : Piece → Type 0
IsSound (Lexeme token) = IsWritable token
IsSound (Angled tree) = IsExpression tree
IsSound white = Unit {0}

abbrev pub AreSound : List Piece → Type 0
AreSound pieces = AllByRecursion IsSound pieces

-- ---- white space

both_pass : (a b : Bool) → (a && b) ≡ true → (a ≡ true) × (b ≡ true)
both_pass true b h = (refl, h)
both_pass false b h = absurd (false≢true h)

front_of_none : (rest : List ℕ) → is_dense rest ≡ true → prefix_len is_separator rest ≡ 0
front_of_none [] dense = refl
front_of_none (c ∷ rest) dense = by (is_separator c) dense
  where
    by : (separates : Bool) → not separates ≡ true → cond separates (1 + prefix_len is_separator rest) 0 ≡ 0
    by true h = absurd (false≢true h)
    by false h = refl

front_of : (white rest : List ℕ) → list_all is_separator white ≡ true → is_dense rest ≡ true → prefix_len is_separator (white ++ rest) ≡ length white
front_of [] rest all dense = front_of_none rest dense
front_of (c ∷ white) rest all dense =
    let both = both_pass (is_separator c) (list_all is_separator white) all in
    rw (both.0, one-add) (ap suc (front_of white rest both.1 dense))

chosen : {A : Type 0} (test : Bool) (a b c : A) → test ≡ true → a ≡ c → cond test a b ≡ c
chosen true a b c is e = e
chosen false a b c is e = absurd (false≢true is)

gap_first : (c : ℕ) (white rest : List ℕ) → list_all is_separator (c ∷ white) ≡ true → is_dense rest ≡ true
    → first_item (c ∷ white ++ rest) ≡ item.Gap (length (c ∷ white))
gap_first c white rest all dense =
    let both = both_pass (is_separator c) (list_all is_separator white) all in
    let front : take_while is_separator (c ∷ white ++ rest) ≡ c ∷ white =
    ap (λ n. take n (c ∷ white ++ rest)) (front_of (c ∷ white) rest all dense) ∙ take_at (c ∷ white) rest (length (c ∷ white)) refl in
    chosen (is_separator c) _ _ _ both.0 (ap (λ t. item.Gap (length t)) front)

-- a text is white space, and then bytes that begin with none and have these tokens
pub record Spaced (text : List ℕ) (tokens : List Token) : Type 0 where
  pub white : List ℕ
  pub rest : List ℕ
  pub whole : text ≡ white ++ rest
  pub separates : list_all is_separator white ≡ true
  pub dense : is_dense rest ≡ true
  pub lexes : Lexes rest tokens

pub lexes_spaced : (text : List ℕ) (tokens : List Token) → Spaced text tokens → Lexes text tokens
lexes_spaced text tokens s = subst (λ t. Lexes t tokens) (sym s.whole) (by s.white s.separates)
  where
    by : (white : List ℕ) → list_all is_separator white ≡ true → Lexes (white ++ s.rest) tokens
    by [] all = s.lexes
    by (c ∷ white) all = lexes_gap (c ∷ white) s.rest (length (c ∷ white)) tokens refl (omega arith) (gap_first c white s.rest all s.dense) s.lexes

-- bytes that begin with no white space
dense_spaced : (text : List ℕ) (tokens : List Token) → is_dense text ≡ true → Lexes text tokens → Spaced text tokens
dense_spaced text tokens dense lexes = record { white = []; rest = text; whole = refl; separates = refl; dense = dense; lexes = lexes }

all_append : (xs ys : List ℕ) → list_all is_separator xs ≡ true → list_all is_separator ys ≡ true → list_all is_separator (xs ++ ys) ≡ true
all_append [] ys h k = k
all_append (x ∷ xs) ys h k =
    let both = both_pass (is_separator x) (list_all is_separator xs) h in
    rw (both.0) (all_append xs ys both.1 k)

-- white space before such a text
white_before : (front text : List ℕ) (tokens : List Token) → list_all is_separator front ≡ true → Spaced text tokens → Spaced (front ++ text) tokens
white_before front text tokens all s = record {
  white = front ++ s.white;
  rest = s.rest;
  whole = ap (λ t. front ++ t) s.whole ∙ sym (append_assoc front s.white s.rest);
  separates = all_append front s.white all s.separates;
  dense = s.dense;
  lexes = s.lexes;
}

all_spaces : (n : ℕ) → list_all is_separator (replicate n 32) ≡ true
all_spaces zero = refl
all_spaces (suc n) = all_spaces n

-- ---- what stands behind a byte is apart from it

none_behind : (last c : ℕ) → is_word_part c ≡ false → (c == 61 || c == 62) ≡ false → not (run_together last c) ≡ true
none_behind last c part grows = rw (part, grows) (by (is_word_part last) (last == 58 || last == 60 || last == 62))
  where
    by : (a b : Bool) → not ((a && false) || (b && false)) ≡ true
    by true true = refl
    by true false = refl
    by false true = refl
    by false false = refl

blank_parted : (last : ℕ) (opens : Bool) (pieces : List Piece) → is_parted last (spaced last pieces) ≡ true
    → is_parted last (cond opens [] (32 ∷ []) ++ spaced (last_behind last (cond opens [] (32 ∷ []))) pieces) ≡ true
unfolding spaced
blank_parted last true pieces later = later
blank_parted last false pieces later = none_behind last 32 refl refl

together_parted : (last c : ℕ) (together : Bool) (text rest : List ℕ) → run_together last c ≡ together
    → is_parted last (cond together (32 ∷ c ∷ text) (c ∷ text) ++ rest) ≡ true
together_parted last c true text rest e = none_behind last 32 refl refl
together_parted last c false text rest e = ap not e

lexeme_parted : (last : ℕ) (text : List ℕ) (pieces : List Piece) → is_parted last (spaced last pieces) ≡ true
    → is_parted last (apart last text ++ spaced (last_behind last (apart last text)) pieces) ≡ true
lexeme_parted last [] pieces later = later
lexeme_parted last (c ∷ text) pieces later = together_parted last c (run_together last c) text _ refl

pub parted_spaced : (last : ℕ) (pieces : List Piece) → is_parted last (spaced last pieces) ≡ true
unfolding spaced
parted_spaced last [] = refl
parted_spaced last (Blank ∷ pieces) = blank_parted last (is_opening last) pieces (parted_spaced last pieces)
parted_spaced last (Line depth ∷ pieces) = none_behind last 10 refl refl
parted_spaced last (Lexeme token ∷ pieces) = lexeme_parted last (spelled token) pieces (parted_spaced last pieces)
parted_spaced last (Angled tree ∷ pieces) = none_behind last 60 refl refl

-- ---- regular path expressions between `<` and `>`

-- a part begins with nothing that would make a longer symbol of the `<`
Apart : List ℕ → Type 0
Apart text = (rest : List ℕ) → is_parted 60 (text ++ rest) ≡ true

enclosed_parted : (loose : Bool) (text : List ℕ) → Apart text → Apart (cond loose (codes "(" ++ text ++ codes ")") text)
unfolding Apart
enclosed_parted true text parted rest = refl
enclosed_parted false text parted rest = parted rest

joined_parted : (c : ℕ) (text : List ℕ) (texts : List (List ℕ)) → Apart text → Apart (join_with_byte c (text ∷ texts))
unfolding Apart
joined_parted c text [] parted rest = parted rest
joined_parted c text (other ∷ texts) parted rest =
    rw (append_assoc text (c ∷ join_with_byte c (other ∷ texts)) rest) (parted (c ∷ (join_with_byte c (other ∷ texts) ++ rest)))

BeginsApart : (k : Kind) → RegexTree k → Type 0
BeginsApart ARegex tree = Apart (text_of tree)
BeginsApart ARow none = Unit {0}
BeginsApart ARow (more part parts) = Apart (text_of part)

long_parted : (c : ℕ) (close : Part → List ℕ) (parts : RegexTree ARow) → ((part : Part) → Apart part.text → Apart (close part)) → IsLong parts → BeginsApart ARow parts
    → Apart (join_with_byte c (map close (text_of parts)))
unfolding BeginsApart text_of
long_parted c close none closes long parted = absurd long
long_parted c close (more part parts) closes long parted =
    joined_parted c (close (record { looseness = looseness_of part; text = text_of part })) (map close (text_of parts))
    (closes (record { looseness = looseness_of part; text = text_of part }) parted)

begins_apart : {k : Kind} (tree : RegexTree k) → IsExpression tree → BeginsApart k tree
unfolding BeginsApart text_of IsFormed Apart
begins_apart (Label l) is = λ rest. refl
begins_apart (Back l) is = λ rest. refl
begins_apart Any is = λ rest. refl
begins_apart AnyBack is = λ rest. refl
begins_apart (Test l) is = λ rest. refl
begins_apart (View v) is = λ rest. refl
begins_apart (Cat parts) is = long_parted 32 _ parts (λ part parted. enclosed_parted _ part.text parted) is.0 (begins_apart parts is.1)
begins_apart (Alt parts) is = long_parted 124 _ parts (λ part parted. enclosed_parted _ part.text parted) is.0 (begins_apart parts is.1)
begins_apart (Star part) is =
    λ rest. let parted = begins_apart part is in
    rw (append_assoc _ (42 ∷ []) rest) (enclosed_parted _ (text_of part) parted (42 ∷ rest))
begins_apart none is = tt
begins_apart (more part parts) is = begins_apart part is.0

angled_lexes : (tree : RegexTree ARegex) (rest : List ℕ) (ts : List Token) → IsExpression tree → is_parted 62 rest ≡ true → Lexes rest ts
    → Lexes (60 ∷ (regex_text tree ++ 62 ∷ rest)) (Symbol mark.Less ∷ (tokens_of tree ++ Symbol mark.Greater ∷ ts))
unfolding BeginsApart Apart
angled_lexes tree rest ts is parted behind =
    mark_lexes mark.Less (regex_text tree ++ 62 ∷ rest) (tokens_of tree ++ Symbol mark.Greater ∷ ts) (begins_apart tree is (62 ∷ rest))
    ((expression_lexes tree is).lexes (62 ∷ rest) (Symbol mark.Greater ∷ ts) refl (mark_lexes mark.Greater rest ts parted behind))

-- ---- the tokens of pieces

-- a token behind white space, or directly behind a byte
placed : (last : ℕ) (text : List ℕ) (pieces : List Piece) (ts : List Token) → Front text → Spaced (text ++ spaced (last_behind 0 text) pieces) ts
    → Spaced (apart last text ++ spaced (last_behind last (apart last text)) pieces) ts
placed last [] pieces ts front s = absurd (cc)
placed last (c ∷ text) pieces ts front s = by (run_together last c)
  where
    by : (together : Bool) → Spaced (cond together (32 ∷ c ∷ text) (c ∷ text) ++ spaced (last_behind last (cond together (32 ∷ c ∷ text) (c ∷ text))) pieces) ts
    by true = white_before (32 ∷ []) (c ∷ text ++ spaced (last_behind c text) pieces) ts refl s
    by false = s

front_dense : (text rest : List ℕ) → Front text → is_dense (text ++ rest) ≡ true
front_dense text rest front = rw (front.is, front.dense) refl

-- tokens behind a byte, whichever it is
abbrev SpacedBehind : List Piece → Type 0
SpacedBehind pieces = (last : ℕ) → Spaced (spaced last pieces) (tokens_in pieces)

lexeme_spaced : (last : ℕ) (token : Token) (pieces : List Piece) → IsWritable token → SpacedBehind pieces
    → Spaced (apart last (spelled token) ++ spaced (last_behind last (apart last (spelled token))) pieces) (token ∷ tokens_in pieces)
lexeme_spaced last token pieces is later =
    let text = spelled token in
    let rest = spaced (last_behind 0 text) pieces in
    let front = token_front token is in
    let lexes : Lexes (text ++ rest) (token ∷ tokens_in pieces) =
    token_lexes token rest (tokens_in pieces) is (parted_spaced (last_behind 0 text) pieces) (lexes_spaced rest (tokens_in pieces) (later (last_behind 0 text))) in
    placed last text pieces (token ∷ tokens_in pieces) front (dense_spaced (text ++ rest) (token ∷ tokens_in pieces) (front_dense text rest front) lexes)

angled_spaced : (last : ℕ) (tree : RegexTree ARegex) (pieces : List Piece) → IsExpression tree → SpacedBehind pieces
    → Spaced ((60 ∷ (regex_text tree ++ 62 ∷ [])) ++ spaced (last_behind last (60 ∷ (regex_text tree ++ 62 ∷ []))) pieces)
    (Symbol mark.Less ∷ (tokens_of tree ++ Symbol mark.Greater ∷ tokens_in pieces))
angled_spaced last tree pieces is later =
    let rest = spaced 62 pieces in
    let lexes = angled_lexes tree rest (tokens_in pieces) is (parted_spaced 62 pieces) (lexes_spaced rest (tokens_in pieces) (later 62)) in
    let whole : 60 ∷ (regex_text tree ++ 62 ∷ rest) ≡ (60 ∷ (regex_text tree ++ 62 ∷ [])) ++ spaced (last_behind 60 (regex_text tree ++ 62 ∷ [])) pieces =
    ap (λ t. 60 ∷ t) (sym (append_assoc (regex_text tree) (62 ∷ []) rest)) ∙ ap (λ l. (60 ∷ (regex_text tree ++ 62 ∷ [])) ++ spaced l pieces) (sym (last_append 60 (regex_text tree) (62 ∷ []))) in
    subst (λ t. Spaced t (Symbol mark.Less ∷ (tokens_of tree ++ Symbol mark.Greater ∷ tokens_in pieces))) whole
    (dense_spaced (60 ∷ (regex_text tree ++ 62 ∷ rest)) (Symbol mark.Less ∷ (tokens_of tree ++ Symbol mark.Greater ∷ tokens_in pieces)) refl lexes)

blank_spaced : (last : ℕ) (opens : Bool) (pieces : List Piece) → SpacedBehind pieces
    → Spaced (cond opens [] (32 ∷ []) ++ spaced (last_behind last (cond opens [] (32 ∷ []))) pieces) (tokens_in pieces)
blank_spaced last true pieces later = later last
blank_spaced last false pieces later = white_before (32 ∷ []) (spaced 32 pieces) (tokens_in pieces) refl (later 32)

pub pieces_lex : (pieces : List Piece) → AreSound pieces → (last : ℕ) → Spaced (spaced last pieces) (tokens_in pieces)
unfolding spaced
pieces_lex [] sound last = record { white = []; rest = []; whole = refl; separates = refl; dense = refl; lexes = lexes_end }
pieces_lex (Blank ∷ pieces) sound last = blank_spaced last (is_opening last) pieces (pieces_lex pieces sound.1)
pieces_lex (Line depth ∷ pieces) sound last =
    let front = 10 ∷ replicate (depth + depth) 32 in
    white_before front (spaced (last_behind last front) pieces) (tokens_in pieces) (all_spaces (depth + depth)) (pieces_lex pieces sound.1 (last_behind last front))
pieces_lex (Lexeme token ∷ pieces) sound last = lexeme_spaced last token pieces sound.0 (pieces_lex pieces sound.1)
pieces_lex (Angled tree ∷ pieces) sound last = angled_spaced last tree pieces sound.0 (pieces_lex pieces sound.1)
