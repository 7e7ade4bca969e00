-- How loosely regular path expressions hold together.
use Rattle.std.specs.Prelude.{ℕ}
use Rattle.gc_regx.specs.Trees.{RegexTree, ARegex, Cat, Alt, Star}
use Rattle.gc_print.specs.declared.looseness.Looseness.{Looseness}
use Rattle.gc_print.specs.declared.looseness.Looseness.TheVariants as loose

-- a unit not at all, then a star, then a juxtaposition, and loosest an alternation
abbrev pub looseness_of : RegexTree ARegex → Looseness
looseness_of (Star part) = loose.Star
looseness_of (Cat parts) = loose.Juxtaposition
looseness_of (Alt parts) = loose.Alternation
looseness_of unit = loose.Unit

-- the tightest first
abbrev pub rank : Looseness → ℕ
rank loose.Unit = 0
rank loose.Star = 1
rank loose.Juxtaposition = 2
rank loose.Alternation = 3
