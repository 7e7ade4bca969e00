-- What the grammar gives has an automaton.
use Rattle.gc_regx.specs.Trees.{Kind, RegexTree, ARow, Label, Back, Any, AnyBack, Test, View, Cat, Alt, Star, none, more}
use Rattle.gc_regx.specs.Expressions.{IsFormed, IsSome, IsLong, HasParts, IsExpression}

some_of_long : (parts : RegexTree ARow) → IsLong parts → IsSome parts
some_of_long none long = long
some_of_long (more part parts) long = tt

pub has_parts : {k : Kind} (tree : RegexTree k) → IsExpression tree → HasParts tree
unfolding IsFormed
has_parts (Label l) is = tt
has_parts (Back l) is = tt
has_parts Any is = tt
has_parts AnyBack is = tt
has_parts (Test l) is = tt
has_parts (View v) is = tt
has_parts (Cat parts) is = (some_of_long parts is.0, has_parts parts is.1)
has_parts (Alt parts) is = (tt, has_parts parts is.1)
has_parts (Star part) is = has_parts part is
has_parts none is = tt
has_parts (more part parts) is = (has_parts part is.0, has_parts parts is.1)
