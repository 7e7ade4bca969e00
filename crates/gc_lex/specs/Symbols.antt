-- The symbols.
use Rattle.std.specs.Prelude.{ℕ, List, [], ◌∷◌, ◌++◌, codes, nat_eq, if◌then◌else◌, Option, Some, None}
use Rattle.std.specs.List.{starts_with}
use Rattle.std.specs.Option.{option_map}
use Rattle.gc_lex.specs.declared.token.Mark.{Mark}
use Rattle.gc_lex.specs.declared.token.Mark.TheVariants as mark

-- the symbols of two characters, with their spellings
abbrev pub symbols_of_two : List (List ℕ × Mark)
symbols_of_two =
    (codes ":=", mark.Assign) ∷ (codes "<=", mark.AtMost) ∷ (codes ">=", mark.AtLeast) ∷ (codes "<>", mark.Differs) ∷ []

-- the symbols of one character
abbrev pub symbols_of_one : List (List ℕ × Mark)
symbols_of_one =
    (codes "(", mark.OpenParenthesis) ∷ (codes ")", mark.CloseParenthesis)
    ∷ (codes "[", mark.OpenBracket) ∷ (codes "]", mark.CloseBracket)
    ∷ (codes "{", mark.OpenBrace) ∷ (codes "}", mark.CloseBrace)
    ∷ (codes "<", mark.Less) ∷ (codes ">", mark.Greater)
    ∷ (codes ",", mark.Comma) ∷ (codes ";", mark.Semicolon) ∷ (codes ":", mark.Colon) ∷ (codes ".", mark.Dot)
    ∷ (codes "=", mark.Equals) ∷ (codes "+", mark.Plus) ∷ (codes "-", mark.Minus)
    ∷ (codes "*", mark.Star) ∷ (codes "/", mark.Slash) ∷ (codes "%", mark.Percent)
    ∷ (codes "|", mark.Bar) ∷ (codes "!", mark.Bang) ∷ (codes "~", mark.Tilde)
    ∷ (codes "@", mark.AtSign) ∷ (codes "_", mark.LowLine) ∷ []

-- every symbol, the longer ones first
abbrev pub symbols : List (List ℕ × Mark)
symbols = symbols_of_two ++ symbols_of_one

-- the first entry of a table whose spelling the text begins with
abbrev pub entry_of : List (List ℕ × Mark) → List ℕ → Option (List ℕ × Mark)
entry_of [] text = None
entry_of (entry ∷ entries) text =
    if starts_with nat_eq text entry.0 then Some entry else entry_of entries text

-- the symbol of an entry
abbrev pub mark_in : List (List ℕ × Mark) → List ℕ → Option Mark
mark_in entries text = option_map (λ entry. entry.1) (entry_of entries text)
