-- The classes of characters. Each is told by one byte.
use Rattle.std.specs.Prelude.{ℕ, Bool, ◌||◌, ◌==◌}

-- a space, a tab, a carriage return or a line feed
abbrev pub is_separator : ℕ → Bool
is_separator c = c == 32 || c == 9 || c == 13 || c == 10

-- a line feed
abbrev pub is_line_feed : ℕ → Bool
is_line_feed c = c == 10

-- `#`, which begins a comment
abbrev pub is_hash : ℕ → Bool
is_hash c = c == 35

-- `"` or `'`
abbrev pub is_quote : ℕ → Bool
is_quote c = c == 34 || c == 39

-- `\`
abbrev pub is_backslash : ℕ → Bool
is_backslash c = c == 92
