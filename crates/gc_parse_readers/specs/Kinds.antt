-- Kinds of tokens, by which a reader chooses with one token in hand: a kind for each symbol and each
-- reserved word, one for names, one for numbers and one for texts.
use Rattle.std.specs.Prelude.{ℕ, suc, Bool, true, false, ◌+◌, ◌&&◌, not, List, [], ◌∷◌, length, nat_eq, if◌then◌else◌}
use Rattle.std.specs.List.{list_any, list_all, position_or_len, range_with_len}
use Rattle.std.specs.Cmp.Lexicographic.{pointwise}
use Rattle.gc_base.specs.Words.{is_reserved, reserved_words}
use Rattle.gc_lex.specs.declared.token.Token.{Token}
use Rattle.gc_lex.specs.declared.token.Token.TheVariants.{Word, Number, Text, Symbol}
use Rattle.gc_lex.specs.declared.token.Mark.{Mark}
use Rattle.gc_lex.specs.declared.token.Mark.TheVariants as mark

-- the kind of a symbol
abbrev pub mark_kind : Mark → ℕ
mark_kind mark.Assign = 0
mark_kind mark.AtMost = 1
mark_kind mark.AtLeast = 2
mark_kind mark.Differs = 3
mark_kind mark.OpenParenthesis = 4
mark_kind mark.CloseParenthesis = 5
mark_kind mark.OpenBracket = 6
mark_kind mark.CloseBracket = 7
mark_kind mark.OpenBrace = 8
mark_kind mark.CloseBrace = 9
mark_kind mark.Less = 10
mark_kind mark.Greater = 11
mark_kind mark.Comma = 12
mark_kind mark.Semicolon = 13
mark_kind mark.Colon = 14
mark_kind mark.Dot = 15
mark_kind mark.Equals = 16
mark_kind mark.Plus = 17
mark_kind mark.Minus = 18
mark_kind mark.Star = 19
mark_kind mark.Slash = 20
mark_kind mark.Percent = 21
mark_kind mark.Bar = 22
mark_kind mark.Bang = 23
mark_kind mark.Tilde = 24
mark_kind mark.AtSign = 25
mark_kind mark.LowLine = 26

-- the kinds of numbers, texts and names
abbrev pub number_kind : ℕ
number_kind = 27

abbrev pub text_kind : ℕ
text_kind = 28

abbrev pub name_kind : ℕ
name_kind = 29

-- the kind of a word: names have one, and each reserved word has its own
abbrev pub word_kind : List ℕ → ℕ
word_kind word = if is_reserved word then 30 + position_or_len (pointwise nat_eq word) reserved_words else name_kind

-- the kinds that words have: that of names, and those of the reserved words
abbrev pub any_word_kinds : List ℕ
any_word_kinds = range_with_len name_kind (suc (length reserved_words))

-- the kind of a token
abbrev pub kind : Token → ℕ
kind (Symbol symbol) = mark_kind symbol
kind (Number n) = number_kind
kind (Text t) = text_kind
kind (Word word) = word_kind word

-- whether a kind is one of some
abbrev pub among : List ℕ → ℕ → Bool
among kinds k = list_any (nat_eq k) kinds

-- whether a list begins with a token of one of some kinds
abbrev pub begins : List ℕ → List Token → Bool
begins kinds [] = false
begins kinds (token ∷ ts) = among kinds (kind token)

-- whether a list begins with tokens of such kinds, in this order
abbrev pub begins_so : List (List ℕ) → List Token → Bool
begins_so [] ts = true
begins_so (kinds ∷ others) [] = false
begins_so (kinds ∷ others) (token ∷ ts) = among kinds (kind token) && begins_so others ts

-- whether all kinds of one list are on another, and whether none is
abbrev pub covers : List ℕ → List ℕ → Bool
covers kinds others = list_all (among kinds) others

abbrev pub apart : List ℕ → List ℕ → Bool
apart kinds others = list_all (λ k. not (among kinds k)) others
