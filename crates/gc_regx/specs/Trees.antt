-- Regular path expressions as plain trees.
use Rattle.std.specs.Prelude.{ℕ, List, [], ◌∷◌}

-- a tree is an expression, or a row of expressions
pub data Kind : Type 0 where
  ARegex : Kind
  ARow : Kind

-- the trees of regular path expressions; words are their bytes
pub data RegexTree : Kind → Type 0 where
  -- `:l`, `:l-`, `_`, `_-`, `!:l` and `~v`
  Label : List ℕ → RegexTree ARegex
  Back : List ℕ → RegexTree ARegex
  Any : RegexTree ARegex
  AnyBack : RegexTree ARegex
  Test : List ℕ → RegexTree ARegex
  View : List ℕ → RegexTree ARegex
  -- parts one after another, one of the parts, and a part any number of times
  Cat : RegexTree ARow → RegexTree ARegex
  Alt : RegexTree ARow → RegexTree ARegex
  Star : RegexTree ARegex → RegexTree ARegex
  -- no expression, and an expression before a row
  none : RegexTree ARow
  more : RegexTree ARegex → RegexTree ARow → RegexTree ARow

-- a list of expressions as a row
abbrev pub row : List (RegexTree ARegex) → RegexTree ARow
row [] = none
row (tree ∷ trees) = more tree (row trees)
