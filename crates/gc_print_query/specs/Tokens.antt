-- The tokens of pieces, and which tokens can be written.
use Rattle.std.specs.Prelude.{◌≡◌, ℤ, pos, negsuc, ◌≤◌, true, List, [], ◌∷◌, ◌++◌, ⊤, IsUtf8}
use Rattle.std.specs.List.{AllByRecursion}
use Rattle.gc_base.specs.Words.{is_word}
use Rattle.gc_lex.specs.declared.token.Token.{Token}
use Rattle.gc_lex.specs.declared.token.Token.TheVariants.{Word, Number, Text, Symbol}
use Rattle.gc_lex.specs.declared.token.Mark.TheVariants as mark
use Rattle.gc_print.specs.RegexTokens.{tokens_of}
use Rattle.gc_print_query.specs.Pieces.{Piece, Blank, Line, Lexeme, Angled}

-- the tokens of pieces, in order
abbrev pub tokens_in : List Piece → List Token
tokens_in [] = []
tokens_in (Blank ∷ pieces) = tokens_in pieces
tokens_in (Line depth ∷ pieces) = tokens_in pieces
tokens_in (Lexeme token ∷ pieces) = token ∷ tokens_in pieces
tokens_in (Angled tree ∷ pieces) = Symbol mark.Less ∷ (tokens_of tree ++ Symbol mark.Greater ∷ tokens_in pieces)

-- a number that a token may be
abbrev pub IsNumber : ℤ → Type 0
IsNumber (pos n) = n ≤ 9223372036854775807
IsNumber (negsuc n) = ⊥

-- a word has the form of one, a number is none of those that are too large or below 0, and a text is UTF-8
abbrev pub IsWritable : Token → Type 0
IsWritable (Word word) = is_word word ≡ true
IsWritable (Number number) = IsNumber number
IsWritable (Text text) = IsUtf8 text
IsWritable (Symbol symbol) = ⊤

-- each token can be written
unfoldable pub AreWritable : List Token → Type 0
AreWritable tokens = AllByRecursion IsWritable tokens
