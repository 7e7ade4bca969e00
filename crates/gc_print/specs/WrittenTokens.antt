-- Tokens that can be written.
use Rattle.std.specs.Prelude.{◌≡◌, true, List, ⊤}
use Rattle.std.specs.List.{AllByRecursion}
use Rattle.gc_base.specs.Words.{is_word}
use Rattle.gc_lex.specs.declared.token.Token.{Token}
use Rattle.gc_lex.specs.declared.token.Token.TheVariants.{Word}

-- a token of a word has the form of one
abbrev pub IsWritten : Token → Type 0
IsWritten (Word word) = is_word word ≡ true
IsWritten token = ⊤

-- each token can be written
abbrev pub AreWritten : List Token → Type 0
AreWritten tokens = AllByRecursion IsWritten tokens
