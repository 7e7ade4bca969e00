-- Walks that conform to a regular path expression, at a cost.
use Rattle.std.specs.Prelude.{◌≡◌, ℕ, zero, suc, ◌+◌, ◌<◌, ◌⊎◌, List, [], ◌∷◌, length}
use Rattle.gc_base.specs.Walks.{end_of}
use Rattle.gc_base.specs.declared.walk.Walk.{Walk}
use Rattle.gc_regx.specs.Trees.{Kind, RegexTree, ARegex, ARow, Label, Back, Any, AnyBack, Test, View, Cat, Alt, Star, none, more}
use Rattle.gc_automata.specs.declared.transition.On.TheVariants as on
use Rattle.gc_automata.specs.Moves.{Network, Goes, Stays, joined}

-- a fact about a walk and a cost
abbrev pub Fact : Type 1
Fact = Walk → ℕ → Type 0

-- a walk splits in two: the first part is so, the second is so, and the costs add up
pub record Follow (P Q : Fact) (w : Walk) (c : ℕ) : Type 0 where
  pub first : Walk
  pub second : Walk
  pub first_cost : ℕ
  pub second_cost : ℕ
  pub early : P first first_cost
  pub late : Q second second_cost
  pub meets : end_of first ≡ second.start
  pub whole : w ≡ joined first second
  pub cost : c ≡ first_cost + second_cost

-- a walk splits into parts that are so in turn
abbrev pub InTurn : List Fact → Fact
InTurn [] w c = ⊥
InTurn (P ∷ []) w c = P w c
InTurn (P ∷ Q ∷ facts) w c = Follow P (InTurn (Q ∷ facts)) w c

-- a walk is so in one of some ways
abbrev pub OneOf : List Fact → Fact
OneOf [] w c = ⊥
OneOf (P ∷ facts) w c = P w c ⊎ OneOf facts w c

-- a walk that goes along an edge, and is so
abbrev pub Moving : Fact → Fact
Moving P w c = (0 < length w.steps) × P w c

-- so many turns, each of which moves, and then no more
abbrev pub Turns : Network → Fact → ℕ → Fact
Turns network P zero w c = Stays network w c
Turns network P (suc n) w c = Follow (Moving P) (Turns network P n) w c

-- an expression is a fact about a walk, and a row of expressions is a list of them
abbrev pub Facts : Kind → Type 1
Facts ARegex = Fact
Facts ARow = List Fact

-- a walk conforms to a symbol where it goes along it; to a juxtaposition in turn; to an alternation by
-- a branch; and to a star in any number of turns
unfoldable pub conforms : {k : Kind} → Network → RegexTree k → Facts k
conforms network (Label l) = Goes network (on.Label l)
conforms network (Back l) = Goes network (on.Back l)
conforms network Any = Goes network on.Any
conforms network AnyBack = Goes network on.AnyBack
conforms network (Test l) = Goes network (on.Test l)
conforms network (View v) = Goes network (on.View v)
conforms network (Cat parts) = InTurn (conforms network parts)
conforms network (Alt parts) = OneOf (conforms network parts)
conforms network (Star part) = λ w c. (n : ℕ) × Turns network (conforms network part) n w c
conforms network none = []
conforms network (more part parts) = conforms network part ∷ conforms network parts

-- a walk conforms to an expression at a cost
abbrev pub Conforms : Network → RegexTree ARegex → Walk → ℕ → Type 0
Conforms network tree w c = conforms network tree w c
