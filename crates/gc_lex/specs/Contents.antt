-- What stands between the quotes of a text.
use Rattle.std.specs.Prelude.{ℕ, ◌+◌, List, [], ◌∷◌, Bool, not, ◌&&◌, ◌==◌, if◌then◌else◌, Option, Some, None}
use Rattle.gc_lex.specs.Characters.{is_backslash}

-- how the bytes after an opening quote go on
pub data Body : Type 0 where
  -- the contents that they spell, and how many bytes there are up to the closing quote and with it
  Closed : List ℕ → ℕ → Body
  -- so many bytes on there is a backslash that begins no escape
  BadEscape : ℕ → Body
  -- no quote closes them
  Unclosed : Body

-- what a character means after a backslash: `"`, `'` and `\` themselves, `n` a line feed, `t` a tab
abbrev pub escape_of : ℕ → Option ℕ
escape_of c =
    if c == 34 then Some 34 else (if c == 39 then Some 39 else (if c == 92 then Some 92
    else (if c == 110 then Some 10 else (if c == 116 then Some 9 else None))))

-- a byte of the contents, spelled by so many bytes, before the rest
abbrev pub byte_before : ℕ → ℕ → Body → Body
byte_before c n (Closed contents m) = Closed (c ∷ contents) (n + m)
byte_before c n (BadEscape m) = BadEscape (n + m)
byte_before c n Unclosed = Unclosed

-- an escape, if it is one, before the rest
abbrev pub escape_before : Option ℕ → Body → Body
escape_before None rest = BadEscape 0
escape_before (Some c) rest = byte_before c 2 rest

-- the first quote of that kind closes the text; a backslash begins an escape of two characters, and
-- where it is the last byte of all the text stays open; every other byte stands for itself
unfoldable pub body_of : ℕ → List ℕ → Body
body_of quote [] = Unclosed
body_of quote (c ∷ []) = if c == quote then Closed [] 1 else Unclosed
body_of quote (c ∷ d ∷ rest) =
    if c == quote then Closed [] 1
    else (if is_backslash c then escape_before (escape_of d) (body_of quote rest)
    else byte_before c 1 (body_of quote (d ∷ rest)))

-- a byte that stands for itself
abbrev pub is_plain : ℕ → ℕ → Bool
is_plain quote c = not (c == quote) && not (is_backslash c)
