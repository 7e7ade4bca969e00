-- What a text is written of: tokens, and the white space that parts them.
use Rattle.std.specs.Prelude.{ℕ, zero, suc, ◌+◌, Bool, ◌&&◌, ◌||◌, ◌==◌, List, [], ◌∷◌, ◌++◌, replicate, if◌then◌else◌}
use Rattle.gc_base.specs.Words.{is_word_part}
use Rattle.gc_lex.specs.declared.token.Token.{Token}
use Rattle.gc_regx.specs.Trees.{RegexTree, ARegex}
use Rattle.gc_print.specs.RegexTexts.{regex_text}
use Rattle.gc_print_query.specs.TokenTexts.{spelled}

pub data Piece : Type 0 where
  -- a space, but none directly behind what opens
  Blank : Piece
  -- a line feed, and so many times two spaces
  Line : ℕ → Piece
  -- a token, behind a space where it would run together with what is before it
  Lexeme : Token → Piece
  -- a regular path expression between `<` and `>`
  Angled : RegexTree ARegex → Piece

-- `(` and `[`
abbrev pub is_opening : ℕ → Bool
is_opening c = c == 40 || c == 91

-- whether the last byte of a token and the first one of the next could be read as of one token: parts
-- of words, and what `:=`, `<=`, `>=` and `<>` are made of
abbrev pub run_together : ℕ → ℕ → Bool
run_together last first =
    (is_word_part last && is_word_part first)
    || ((last == 58 || last == 60 || last == 62) && (first == 61 || first == 62))

-- bytes behind a byte, with a space where they would run together
abbrev pub apart : ℕ → List ℕ → List ℕ
apart last [] = []
apart last (first ∷ bytes) = if run_together last first then 32 ∷ first ∷ bytes else first ∷ bytes

-- the text of a piece behind a byte
abbrev pub piece_text : ℕ → Piece → List ℕ
piece_text last Blank = if is_opening last then [] else 32 ∷ []
piece_text last (Line depth) = 10 ∷ replicate (depth + depth) 32
piece_text last (Lexeme token) = apart last (spelled token)
piece_text last (Angled tree) = 60 ∷ (regex_text tree ++ 62 ∷ [])

-- the last of some bytes behind a byte
abbrev pub last_behind : ℕ → List ℕ → ℕ
last_behind last [] = last
last_behind last (byte ∷ bytes) = last_behind byte bytes

-- a text with a piece behind it
unfoldable pub with_piece : List ℕ → Piece → List ℕ
with_piece text piece = text ++ piece_text (last_behind 0 text) piece

-- a text with pieces behind it, one after another
abbrev pub written : List ℕ → List Piece → List ℕ
written text [] = text
written text (piece ∷ pieces) = written (with_piece text piece) pieces

-- lists of pieces one after another, with what stands between them
abbrev pub joined : List Piece → List (List Piece) → List Piece
joined between [] = []
joined between (pieces ∷ []) = pieces
joined between (pieces ∷ others ∷ lists) = pieces ++ (between ++ joined between (others ∷ lists))

-- what stands before a list of this number, from 0, in lists with something between them
abbrev pub before_list : ℕ → List Piece → List Piece
before_list zero between = []
before_list (suc i) between = between
