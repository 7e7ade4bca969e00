-- How deep the parentheses in the text of an expression nest.
use Rattle.std.specs.Prelude.{ℕ, ◌+◌, nat_lt, max, List, [], ◌∷◌, if◌then◌else◌}
use Rattle.gc_print.specs.LooseTrees.{looseness_of, rank}
use Rattle.gc_regx.specs.Trees.{Kind, RegexTree, ARegex, ARow, Label, Back, Any, AnyBack, Test, View, Cat, Alt, Star, none, more}

-- a part of a list: how loose it is, from a unit at 0 by a star and a juxtaposition to an alternation at 3, and how
-- deep it nests
pub record NestedPart : Type 0 where
  pub looseness : ℕ
  pub depth : ℕ

abbrev pub nested : RegexTree ARegex → ℕ → NestedPart
nested tree depth = record { looseness = rank (looseness_of tree); depth = depth }

-- how deep a part nests where only parts up to some looseness stand without parentheses
abbrev pub enclosed_depth : ℕ → NestedPart → ℕ
enclosed_depth most part = if nat_lt most part.looseness then part.depth + 1 else part.depth

-- how deep the deepest of some parts nests
abbrev pub deepest : ℕ → List NestedPart → ℕ
deepest most [] = 0
deepest most (part ∷ parts) = max (enclosed_depth most part) (deepest most parts)

-- an expression nests so deep, and a row of expressions has the depth of each
abbrev pub DepthOf : Kind → Type 0
DepthOf ARegex = ℕ
DepthOf ARow = List NestedPart

-- the parts of a juxtaposition stand without parentheses up to a star, those of an alternation up to a juxtaposition
unfoldable pub nesting_of : {k : Kind} → RegexTree k → DepthOf k
nesting_of (Label l) = 0
nesting_of (Back l) = 0
nesting_of Any = 0
nesting_of AnyBack = 0
nesting_of (Test l) = 0
nesting_of (View v) = 0
nesting_of (Cat parts) = deepest 1 (nesting_of parts)
nesting_of (Alt parts) = deepest 2 (nesting_of parts)
nesting_of (Star part) = enclosed_depth 0 (nested part (nesting_of part))
nesting_of none = []
nesting_of (more part parts) = nested part (nesting_of part) ∷ nesting_of parts
