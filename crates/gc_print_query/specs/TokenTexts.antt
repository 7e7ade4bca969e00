-- How tokens are written.
use Rattle.std.specs.Prelude.{ℕ, List, [], ◌∷◌, ◌++◌, codes, ◌==◌, if◌then◌else◌}
use Rattle.std.specs.List.{flat_map}
use Rattle.std.specs.Fmt.{signed_decimal}
use Rattle.gc_lex.specs.declared.token.Token.{Token}
use Rattle.gc_lex.specs.declared.token.Token.TheVariants.{Word, Number, Text, Symbol}
use Rattle.gc_lex.specs.declared.token.Mark.{Mark}
use Rattle.gc_lex.specs.declared.token.Mark.TheVariants as mark

-- a symbol
abbrev pub mark_text : Mark → List ℕ
mark_text mark.Assign = codes ":="
mark_text mark.AtMost = codes "<="
mark_text mark.AtLeast = codes ">="
mark_text mark.Differs = codes "<>"
mark_text mark.OpenParenthesis = codes "("
mark_text mark.CloseParenthesis = codes ")"
mark_text mark.OpenBracket = codes "["
mark_text mark.CloseBracket = codes "]"
mark_text mark.OpenBrace = codes "{"
mark_text mark.CloseBrace = codes "}"
mark_text mark.Less = codes "<"
mark_text mark.Greater = codes ">"
mark_text mark.Comma = codes ","
mark_text mark.Semicolon = codes ";"
mark_text mark.Colon = codes ":"
mark_text mark.Dot = codes "."
mark_text mark.Equals = codes "="
mark_text mark.Plus = codes "+"
mark_text mark.Minus = codes "-"
mark_text mark.Star = codes "*"
mark_text mark.Slash = codes "/"
mark_text mark.Percent = codes "%"
mark_text mark.Bar = codes "|"
mark_text mark.Bang = codes "!"
mark_text mark.Tilde = codes "~"
mark_text mark.AtSign = codes "@"
mark_text mark.LowLine = codes "_"

-- a byte of a text: `"` and `\` behind a backslash, a line feed as `\n` and a tab as `\t`
abbrev pub escaped : ℕ → List ℕ
escaped c =
    if c == 34 then 92 ∷ 34 ∷ [] else (if c == 92 then 92 ∷ 92 ∷ [] else (if c == 10 then 92 ∷ 110 ∷ []
    else (if c == 9 then 92 ∷ 116 ∷ [] else c ∷ [])))

-- a text, between two `"`
abbrev pub quoted : List ℕ → List ℕ
quoted text = 34 ∷ (flat_map escaped text ++ 34 ∷ [])

-- a token
unfoldable pub spelled : Token → List ℕ
spelled (Word word) = word
spelled (Number number) = signed_decimal number
spelled (Text text) = quoted text
spelled (Symbol symbol) = mark_text symbol
