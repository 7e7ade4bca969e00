-- Which trees are well formed.
use Rattle.std.specs.Prelude.{◌≡◌, ℕ, true, false, List, ⊤}
use Rattle.gc_base.specs.Words.{is_word, is_reserved}
use Rattle.gc_regx.specs.Trees.{Kind, RegexTree, ARegex, ARow, Label, Back, Any, AnyBack, Test, View, Cat, Alt, Star, none, more}

-- labels, views, and the parts of a juxtaposition and of an alternation are as is asked, at each depth
unfoldable pub IsFormed : (label view : List ℕ → Type 0) (turn choice : RegexTree ARow → Type 0) → {k : Kind} → RegexTree k → Type 0
IsFormed label view turn choice (Label l) = label l
IsFormed label view turn choice (Back l) = label l
IsFormed label view turn choice Any = ⊤
IsFormed label view turn choice AnyBack = ⊤
IsFormed label view turn choice (Test l) = label l
IsFormed label view turn choice (View v) = view v
IsFormed label view turn choice (Cat parts) = turn parts × IsFormed label view turn choice parts
IsFormed label view turn choice (Alt parts) = choice parts × IsFormed label view turn choice parts
IsFormed label view turn choice (Star part) = IsFormed label view turn choice part
IsFormed label view turn choice none = ⊤
IsFormed label view turn choice (more part parts) = IsFormed label view turn choice part × IsFormed label view turn choice parts

-- a row of one or more
abbrev pub IsSome : RegexTree ARow → Type 0
IsSome none = ⊥
IsSome (more part parts) = ⊤

-- a row of two or more
abbrev pub IsLong : RegexTree ARow → Type 0
IsLong (more part (more other parts)) = ⊤
IsLong parts = ⊥

-- the expressions that have an automaton: no juxtaposition in them is of no parts
abbrev pub HasParts : {k : Kind} → RegexTree k → Type 0
HasParts tree = IsFormed (λ l. ⊤) (λ v. ⊤) IsSome (λ parts. ⊤) tree

-- the expressions that the grammar gives: labels are words, and views names, which are words that are
-- not reserved; a juxtaposition and an alternation have two parts or more
abbrev pub IsExpression : {k : Kind} → RegexTree k → Type 0
IsExpression tree = IsFormed (λ l. is_word l ≡ true) (λ v. (is_word v ≡ true) × (is_reserved v ≡ false)) IsLong IsLong tree
